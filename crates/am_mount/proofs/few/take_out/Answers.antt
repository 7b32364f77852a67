use Rattle.std.proofs.Common.{◌≡◌, ◌-◌, ℕ, List, length, slice_get, Some, sym, subst, ◌∙◌, rules}
use Rattle.am_mount.proofs.TakeLemmas.{but_greatest}
use Rattle.am_mount.proofs.few.take_out.Goals as goal

pub returns-then-eq : goal.returns-then-eq
returns-then-eq c =
    let mounts = c.args.mounts.now.rows in
    let slice = c.as_slice.result.now in
    let own : slice ≡ mounts = c.as_slice.ensures.value in
    let last : slice_get slice (length slice - 1) ≡ Some c.args.mount = search rules in
    let stands : slice_get mounts (length mounts - 1) ≡ Some c.args.mount =
    subst (λ (xs : List ℕ). slice_get xs (length xs - 1) ≡ Some c.args.mount) own last in
    c.pop-newest.ensures.rest ∙ sym (but_greatest c.args.mount mounts c.requires stands)
