use Rattle.std.proofs.Common.{◌≡◌, ℕ, List, ap, refl, ◌∙◌}
use Rattle.std.specs.Prelude.{nat_eq}
use Rattle.am_ordered.specs.{insert_entry}
use Rattle.am_ordered.specs.RowTable.{RowTable}
use Rattle.am_state.specs.{HeldRow}
use Rattle.am_daemon.specs.{held_as}
use Rattle.am_daemon.specs.Held.{row_of, rows_of}
use Rattle.am_daemon.proofs.ByFsLemmas.{put_is}
use Rattle.am_daemon.proofs.OnceLemmas.{held_once}
use Rattle.am_daemon.proofs.held.HeldTable.hold_reserved.Goals as goal

pub invariant_of-self : goal.invariant_of-self
invariant_of-self c =
    let old = c.self.inside.attachments.entries in
    let fs = c.fs.inside.0 in
    let rows : rows_of c.insert_reserved.new.self.entries ≡ held_as fs c.args.attach (rows_of old) =
    ap rows_of (c.insert_reserved.ensures.entries ∙ ap (λ (es : List (ℕ × ℕ)). insert_entry nat_eq es fs c.args.attach) c.remove-other.ensures.entries)
    ∙ put_is row_of (λ (row : HeldRow). row.fs) (λ (row : HeldRow). row.attach) (λ pair. refl) (λ pair. refl) fs c.args.attach old c.remove-other.ensures.unique in
    held_once fs c.args.attach (rows_of old) _ rows c.self.invariant

pub returns-clause-rows : goal.returns-clause-rows
returns-clause-rows c =
    let old = c.self.inside.attachments.entries in
    let fs = c.fs.inside.0 in
    ap rows_of (c.insert_reserved.ensures.entries ∙ ap (λ (es : List (ℕ × ℕ)). insert_entry nat_eq es fs c.args.attach) c.remove-other.ensures.entries)
    ∙ put_is row_of (λ (row : HeldRow). row.fs) (λ (row : HeldRow). row.attach) (λ pair. refl) (λ pair. refl) fs c.args.attach old c.remove-other.ensures.unique
    ∙ ap (λ (n : ℕ). held_as n c.args.attach (rows_of old)) c.fs.view_is
    ∙ ap (λ (t : RowTable HeldRow). held_as c.args.fs c.args.attach t.rows) c.self.view_is
