use Rattle.std.proofs.Common.{◌≡◌, ℕ, List, take, bytes_eq}
use Rattle.std.specs.Option.{option_copied}
use Rattle.indexmap.specs.IndexMap.{get_by}
use Rattle.am_script.specs.{section_for}
use Rattle.am_script.proofs.maps.first_sections.Given as goal

abbrev pub invariant-loop-section : goal.invariant-loop-section
invariant-loop-section l = (name : List ℕ) → option_copied (get_by (λ key. bytes_eq name key.now) l.index) ≡ section_for (take l.section-index l.sections) name
