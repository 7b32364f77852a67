use Rattle.std.proofs.Common.{◌≡◌, ◌≤◌, length, drop, vec_capacity}
use Rattle.am_script.specs.{maps_read}
use Rattle.am_script.proofs.MapsLemmas.{behind}
use Rattle.am_script.proofs.maps.read_maps.Given as goal

abbrev pub invariant-loop-entry : goal.invariant-loop-entry
invariant-loop-entry l = record {
  read : behind l.maps.items (maps_read l.sections l.first (drop l.entry-index l.entries)) ≡ maps_read l.sections l.first l.entries;
  counted : length l.maps.items ≡ l.entry-index;
  room : length l.entries ≤ vec_capacity l.maps;
}
