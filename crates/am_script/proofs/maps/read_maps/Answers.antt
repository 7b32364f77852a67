use Rattle.std.proofs.Common.{◌≡◌, ◌<◌, ◌+◌, ◌∙◌, List, Bor, Option, Ok, inl, inr, ⊎_elim, length, drop, get_or, sym, ap, rules}
use Rattle.std.specs.Option.{option_copied}
use Rattle.am_map.specs.{Row}
use Rattle.am_master.specs.MasterRow.{MasterRow}
use Rattle.am_script.specs.{IsFaultOr, map_by, maps_read, section_for, Section}
use Rattle.am_script.proofs.MapsLemmas.{behind, map_more, map_stops}
use Rattle.am_script.proofs.maps.read_maps.Goals as goal

pub returns-in-Err-clause-err : goal.returns-in-Err-clause-err
returns-in-Err-clause-err c =
    let sections = c.args.sections.now in
    let entries = c.args.entries.now in
    let i = c.loop-entry.entry-index in
    let entry = c.entry-item.result in
    let inside : i < length entries = search rules in
    let item : entry ≡ get_or entries i entry = search rules in
    let found : option_copied c.copied-section.result ≡ section_for sections entry.map =
    ap (λ (o : Option (Bor Section)). option_copied o) (c.copied-section.ensures ∙ c.get.ensures.value)
    ∙ c.in-Ok.ensures c.as_slice.result.now
    ∙ ap (section_for sections) (c.as_slice.ensures.value ∙ ap (λ (row : MasterRow). row.map) c.entry.view_is) in
    let stops : IsFaultOr c.args.number c.in-Err.fault (map_by (section_for sections entry.map) c.args.first entry) = rw (← found) c.in-Err.ensures.err in
    ⊎_elim
    (λ e. inl (sym c.loop-entry.invariant.read ∙ map_stops sections c.args.first entries i entry c.loop-entry.maps.items c.in-Err.fault inside item e))
    (λ k. inr k)
    stops

pub loop-entry-preserved : goal.loop-entry-preserved
loop-entry-preserved c =
    let sections = c.args.sections.now in
    let entries = c.args.entries.now in
    let i = c.loop-entry.entry-index in
    let entry = c.entry-item.result in
    let inside : i < length entries = search rules in
    let item : entry ≡ get_or entries i entry = search rules in
    let found : option_copied c.copied-section.result ≡ section_for sections entry.map =
    ap (λ (o : Option (Bor Section)). option_copied o) (c.copied-section.ensures ∙ c.get.ensures.value)
    ∙ c.in-Ok.ensures c.as_slice.result.now
    ∙ ap (section_for sections) (c.as_slice.ensures.value ∙ ap (λ (row : MasterRow). row.map) c.entry.view_is) in
    let goes : map_by (section_for sections entry.map) c.args.first entry ≡ Ok c.in-Ok-read_map.map = rw (← found) c.in-Ok-read_map.ensures.ok in
    record {
      read = ap (λ (maps : List (List Row)). behind maps (maps_read sections c.args.first (drop (i + 1) entries))) c.push_reserved.ensures.items
          ∙ sym (map_more sections c.args.first entries i entry c.loop-entry.maps.items c.in-Ok-read_map.map inside item goes)
          ∙ c.loop-entry.invariant.read;
      counted = search rules;
      room = search rules;
    }
