use Rattle.std.proofs.Common.{◌≡◌, ◌++◌, ℕ, List, suc, take, drop, sym, subst, ◌∙◌, rules}
use Rattle.std.specs.List.Sorted.{IsStrictlyIncreasing}
use Rattle.std.proofs.lemmas.List.Sorted.{answers_always}
use Rattle.am_mount.specs.{but}
use Rattle.am_mount.proofs.TakeLemmas.{but_found, but_unfound}
use Rattle.am_mount.proofs.few.take_out_by_halves.Goals as goal

pub returns-in-Ok : goal.returns-in-Ok
returns-in-Ok c =
    let mounts = c.args.mounts.now.rows in
    let slice = c.as_slice.result.now in
    let number = c.mount.inside.0 in
    let own : slice ≡ mounts = c.as_slice.ensures.value in
    let up : IsStrictlyIncreasing slice = subst (λ (xs : List ℕ). IsStrictlyIncreasing xs) (sym own) c.requires in
    let by_number = c.in-Ok.ensures.position (λ (g : ℕ). g)
    (answers_always _ _ _ (λ f a r g called. search rules)) in
    let found : but number slice ≡ take c.in-Ok.at slice ++ drop (suc c.in-Ok.at) slice =
    but_found number slice up c.in-Ok.at by_number in
    rw (← c.mount.view_is) (c.take_out.ensures.rows ∙
    sym (subst (λ (xs : List ℕ). but number xs ≡ take c.in-Ok.at xs ++ drop (suc c.in-Ok.at) xs) own found))

pub returns-in_default : goal.returns-in_default
returns-in_default c =
    let mounts = c.args.mounts.now.rows in
    let slice = c.as_slice.result.now in
    let number = c.mount.inside.0 in
    let own : slice ≡ mounts = c.as_slice.ensures.value in
    let up : IsStrictlyIncreasing slice = subst (λ (xs : List ℕ). IsStrictlyIncreasing xs) (sym own) c.requires in
    let by_number = c.in_default.ensures.position (λ (g : ℕ). g)
    (answers_always _ _ _ (λ f a r g called. search rules)) in
    let none : but number slice ≡ slice = but_unfound number slice up c.in_default.field-0 by_number in
    rw (← c.mount.view_is) (sym (subst (λ (xs : List ℕ). but number xs ≡ xs) own none))
