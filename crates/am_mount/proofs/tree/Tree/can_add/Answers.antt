use Rattle.std.proofs.Common.{◌≡◌, ◌↔◌, ◌++◌, ◌-◌, ℕ, List, length, sym, ap, subst, ◌∙◌}
use Rattle.std.specs.Prelude.{option_map}
use Rattle.std.specs.List.{slice_get}
use Rattle.am_names.specs.{MountRow}
use Rattle.am_mount.specs.{RiseFrom, IsRising, next_of}
use Rattle.am_mount.proofs.RowLemmas.{next_after, rises_behind, next_of_last}
use Rattle.am_mount.proofs.tree.Tree.can_add.Goals as goal

pub loop-row-init : goal.loop-row-init
loop-row-init c =
    let rows = c.args.self.now in
    let rises : IsRising rows = subst (λ (xs : List MountRow). IsRising xs) c.self.view_is c.self.invariant.rising in
    let items : c.as_slice.result.now ≡ rows = c.as_slice.ensures.value ∙ c.self.view_is in
    let next : next_of c.last_of-last.result ≡ next_after 0 rows = ap next_of (c.last_of-last.ensures ∙ ap (λ (xs : List MountRow). option_map (λ row. row.mount) (slice_get xs (length xs - 1))) items) ∙ next_of_last rows in
    subst (λ (n : ℕ). IsRising (rows ++ c.args.rows.now) ↔ RiseFrom n c.args.rows.now) (sym next) (rises_behind 0 rows c.args.rows.now rises)
