use Rattle.std.proofs.Common.{◌≡◌, ◌<◌, ◌==◌, List, Option, Some, length, get_or, sym, ap, ◌∙◌, arith, rules}
use Rattle.std.specs.Prelude.{find}
use Rattle.std.specs.Option.{option_map}
use Rattle.std.proofs.lemmas.List.Sorted.{answers_always}
use Rattle.am_group.proofs.FindLemmas.{found, absent}
use Rattle.am_kernel.specs.{Holder}
use Rattle.am_kernel.proofs.holder.holder_of.Goals as goal

pub returns-in-Ok : goal.returns-in-Ok
returns-in-Ok c =
    let holders : List Holder = c.args.holders.now.items in
    let holder : Holder = c.index.result.now in
    let number = c.attach.inside.0 in
    let within : c.in-Ok.at < length holders = omega (arith, c.in-Ok.ensures.bound, c.args.holders.now.ok.0) in
    let by_number = c.in-Ok.ensures.position (λ (h : Holder). h.attach)
    (answers_always _ _ _ (λ f a r g called. search rules)) in
    let there : find (λ (h : Holder). h.attach == number) holders ≡ Some (get_or holders c.in-Ok.at holder) =
    found (λ (h : Holder). h.attach) holders c.requires number c.in-Ok.at within by_number holder in
    rw (← c.attach.view_is) (ap (λ (o : Option Holder). option_map (λ (h : Holder). h.fs) o) (ap Some c.index.ensures ∙ sym there))

pub returns-in-Err : goal.returns-in-Err
returns-in-Err c =
    let holders = c.args.holders.now.items in
    let number = c.attach.inside.0 in
    let by_number = c.in-Err.ensures.position (λ (h : Holder). h.attach)
    (answers_always _ _ _ (λ f a r g called. search rules)) in
    rw (← c.attach.view_is) (ap (λ (o : Option Holder). option_map (λ (h : Holder). h.fs) o) (sym (absent (λ (h : Holder). h.attach) holders c.requires number _ by_number)))
