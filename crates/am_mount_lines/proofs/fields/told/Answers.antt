use Rattle.std.proofs.Common.{map, refl, sym}
use Rattle.am_mount_lines.specs.Traps.{begins}
use Rattle.am_mount_lines.proofs.Found.{none_found}
use Rattle.am_mount_lines.proofs.Tails.{told_at}
use Rattle.am_mount_lines.proofs.fields.told.Goals as goal

pub returns-in_err-place-clause-none : goal.returns-in_err-place-clause-none
returns-in_err-place-clause-none c =
    let none = none_found (begins c.args.tag.now) (map (λ word. word.now) c.args.fields.now)
    (sym c.in_err-place.ensures) in
    rw c.from_residual.ensures (rw none refl)

pub behind_tag-requires : goal.behind_tag-requires
behind_tag-requires c =
    (told_at (λ word. word.now) c.args.fields.now c.in_ok-place.place c.args.tag.now _ (sym c.in_ok-place.ensures)).fits

pub returns-clause-word : goal.returns-clause-word
returns-clause-word c =
    rw c.behind_tag.ensures
    (told_at (λ word. word.now) c.args.fields.now c.in_ok-place.place c.args.tag.now _ (sym c.in_ok-place.ensures)).is
