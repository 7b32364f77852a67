use Rattle.std.proofs.Common.{◌≡◌, ◌<◌, ◌∙◌, ℕ, List, Bor, Option, Some, None, is_some, length, take, get_or, bytes_eq, cond, false, true, sym, ap, rules}
use Rattle.std.specs.Option.{option_copied}
use Rattle.std.proofs.lemmas.List.{take_all}
use Rattle.std.proofs.lemmas.Map.Text.{hash_map_updates_str}
use Rattle.indexmap.specs.IndexMap.{get_by}
use Rattle.am_script.specs.{Section, section_for}
use Rattle.am_script.proofs.IndexLemmas.{copied_none, copied_there, copied_choice, more_nameless, more_there, more_new}
use Rattle.am_script.proofs.maps.first_sections.Goals as goal
use Rattle.am_script.proofs.maps.first_sections.Goals.{in-Some+then-not-contains_key+in_ok-insert, in-Some+else-not-contains_key, in_default}

pub returns : goal.returns
returns c = λ name.
    c.loop-section.invariant name ∙ ap (λ (front : List Section). section_for front name) (take_all c.loop-section.section-index c.args.sections.now (search rules))

pub loop-section-preserved : goal.loop-section-preserved
loop-section-preserved c = λ name.
    let sections = c.args.sections.now in
    let i = c.loop-section.section-index in
    let section = c.section-item.result in
    let inside : i < length sections = search rules in
    let item : section ≡ get_or sections i section = search rules in
    elim c.match-name.branch [
      | in-Some+then-not-contains_key+in_ok-insert w ↦
          let own = w.in-Some.name.now in
          let named : section.name ≡ Some own = sym c.name.ensures ∙ ap (λ (n : Option (Bor (List ℕ))). option_copied n) w.in-Some.is in
          let missed : w.contains_key.result ≡ false = search rules in
          let none : section_for (take i sections) own ≡ None = sym (c.loop-section.invariant own) ∙ copied_none _ (sym w.contains_key.ensures ∙ missed) in
          ap (λ m. option_copied (get_by (λ key. bytes_eq name key.now) m)) w.index-is
          ∙ ap (λ (found : Option (Bor Section)). option_copied found) (hash_map_updates_str own c.loop-section.index w.insert.new.self _ w.in_ok-insert.ensures.updates name)
          ∙ copied_choice (bytes_eq own name) _ _
          ∙ ap (cond (bytes_eq own name) (Some section)) (c.loop-section.invariant name)
          ∙ more_new sections i section inside item own named none name
      | in-Some+else-not-contains_key w ↦
          let own = w.in-Some.name.now in
          let named : section.name ≡ Some own = sym c.name.ensures ∙ ap (λ (n : Option (Bor (List ℕ))). option_copied n) w.in-Some.is in
          let met : w.contains_key.result ≡ true = search rules in
          let there : is_some (section_for (take i sections) own) ≡ true = rw (← c.loop-section.invariant own) (copied_there _ (sym w.contains_key.ensures ∙ met)) in
          ap (λ m. option_copied (get_by (λ key. bytes_eq name key.now) m)) w.index-is
          ∙ c.loop-section.invariant name ∙ more_there sections i section inside item own named there name
      | in_default w ↦
          let nameless : section.name ≡ None = search rules in
          ap (λ m. option_copied (get_by (λ key. bytes_eq name key.now) m)) w.index-is
          ∙ c.loop-section.invariant name ∙ more_nameless sections i section inside item nameless name
    ]
