use Rattle.std.proofs.Common.{◌≡◌, List, [], ◌∷◌, ◌++◌, true, false, refl, sym, ap, ◌∙◌}
use Rattle.std.specs.List.{list_any}
use Rattle.am_map.specs.EntryText.{EntryText}
use Rattle.am_map.specs.{Row, has_key, rows_by}
use Rattle.am_map.proofs.StoredLemmas.{found_is, insert_new, row_added-there, row_added-new}
use Rattle.am_map.proofs.map.Map.add.Goals as goal

pub returns-then-contains_key-clause-ok : goal.returns-then-contains_key-clause-ok
returns-then-contains_key-clause-ok c =
    let there : list_any (has_key c.args.key.now) (rows_by (λ key. key.items) c.self.inside.rows.entries) ≡ true =
    sym (found_is (λ key. key.items) c.args.key.now c.self.inside.rows.entries) ∙ sym c.contains_key.ensures ∙ c.if-contains_key.true in
    sym (row_added-there c.args.self.now _ (rw (← c.self.view_is) there))

pub returns-clause-ok : goal.returns-clause-ok
returns-clause-ok c =
    let none : list_any (has_key c.args.key.now) (rows_by (λ key. key.items) c.self.inside.rows.entries) ≡ false =
    sym (found_is (λ key. key.items) c.args.key.now c.self.inside.rows.entries) ∙ sym c.contains_key.ensures ∙ c.if-contains_key.false in
    ap (rows_by (λ key. key.items)) c.in_ok-insert.ensures.entries
    ∙ insert_new (λ key. key.items) _ (λ x y. refl) c.args.key.now c.self.inside.rows.entries c.in_ok-key.key c.in_ok-entry.entry c.in_ok-key.ensures.items none
    ∙ ap (λ (rows : List Row). rows ++ record { key = c.args.key.now; entry = c.in_ok-entry.entry } ∷ []) c.self.view_is
    ∙ ap (λ (entry : EntryText). c.args.self.now ++ record { key = c.args.key.now; entry = entry } ∷ []) c.in_ok-entry.ensures
    ∙ sym (row_added-new c.args.self.now _ (rw (← c.self.view_is) none))
