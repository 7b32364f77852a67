use Rattle.std.proofs.Common.{◌≡◌, ◌<◌, ◌==◌, ◌++◌, ◌∷◌, [], None, List, suc, length, take, drop, remove, sym, ap, ◌∙◌, arith, rules}
use Rattle.std.specs.Prelude.{find}
use Rattle.std.proofs.lemmas.List.Sorted.{answers_always}
use Rattle.am_group.proofs.FindLemmas.{absent}
use Rattle.am_names.proofs.LeaveLemmas.{others}
use Rattle.am_kernel.specs.{Holder}
use Rattle.am_kernel.proofs.RisingLemmas.{left_found}
use Rattle.am_kernel.proofs.HolderLemmas.{not_both}
use Rattle.am_kernel.proofs.holder.renew.Goals as goal

pub returns-in-Ok : goal.returns-in-Ok
returns-in-Ok c =
    let holders : List Holder = c.args.holders.now.items in
    let number = c.old.inside.0 in
    let by_number = c.in-Ok.ensures.position (λ (h : Holder). h.attach)
    (answers_always _ _ _ (λ f a r g called. search rules)) in
    let within : c.in-Ok.at < length holders = omega (arith, c.in-Ok.ensures.bound, c.args.holders.now.ok.0) in
    let left : others (λ (h : Holder). h.attach) number holders ≡ take c.in-Ok.at holders ++ drop (suc c.in-Ok.at) holders =
    left_found (λ (h : Holder). h.attach) holders c.requires.rising number c.in-Ok.at within by_number in
    let gone : c.remove-old.new.self.items ≡ remove holders c.in-Ok.at = rw (c.remove-old.ensures.succeeds c.args.new c.in-Ok.ensures.bound) at c.remove-old.ensures.items in
    rw (← c.old.view_is) (c.push_back_reserved.ensures.items ∙ ap (λ (xs : List Holder). xs ++ c.args.new ∷ []) (gone ∙ sym left))

pub returns-in_default : goal.returns-in_default
returns-in_default c =
    let holders : List Holder = c.args.holders.now.items in
    let number = c.old.inside.0 in
    let by_number = c.in_default.ensures.position (λ (h : Holder). h.attach)
    (answers_always _ _ _ (λ f a r g called. search rules)) in
    let none : find (λ (h : Holder). h.attach == number) holders ≡ None = absent (λ (h : Holder). h.attach) holders c.requires.rising number c.in_default.field-0 by_number in
    absurd (not_both number c.args.old holders c.old.view_is none c.requires.held)
