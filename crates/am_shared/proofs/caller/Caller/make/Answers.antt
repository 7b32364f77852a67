use Rattle.std.proofs.Common.{◌≡◌, List, [], ◌∷◌, ◌++◌, rules, sym, ap, ◌∙◌, subst}
use Rattle.am_machine.specs.{entry}
use Rattle.am_shared.specs.{Account, Receipt, Rise, StandsLast}
use Rattle.am_shared.specs.Calls.{calls_of}
use Rattle.am_shared.specs.Passes.{view_of}
use Rattle.am_shared.proofs.CallLemmas.{calls_snoc, receives_from, rise_from}
use Rattle.am_shared.proofs.caller.Caller.make.Goals as goal

pub invariant_of-self-2 : goal.invariant_of-self-2
invariant_of-self-2 g c =
    let o = g.L.Opened.opening in
    let rs = c.self.inside.receipts.items in
    let p = c.in_ok-position.position in
    let a = c.in_ok-position.answer in
    let e = c.args.event in
    let r : Receipt = record { position = p; event = e; answer = a } in
    let before = view_of c.self.inside.pass in
    let behind = view_of c.apply.new.calling in
    let mine : before.mine ≡ calls_of rs = c.self.invariant.1 in
    let items : c.push_reserved.new.self.items ≡ rs ++ r ∷ [] = search rules in
    let added : behind.mine ≡ before.mine ++ (p, entry e a) ∷ [] = search rules in
    let last : StandsLast o before behind p (entry e a) = search rules in (
      search rules,
      added ∙ ap (λ l. l ++ (p, entry e a) ∷ []) mine ∙ sym (calls_snoc rs r) ∙ ap calls_of (sym items),
      subst (λ (l : List Receipt). Rise 0 l) (sym items)
          (rise_from o before behind rs p e a c.self.invariant.2 last mine),
    )

pub returns-clause-ok : goal.returns-clause-ok
returns-clause-ok g c =
    let o = g.L.Opened.opening in
    let rs = c.self.inside.receipts.items in
    let p = c.in_ok-position.field-0.position in
    let a = c.in_ok-position.field-0.answer in
    let e = c.args.event in
    let r : Receipt = record { position = p; event = e; answer = a } in
    let before = view_of c.self.inside.pass in
    let behind = view_of c.apply.new.calling in
    let mine = c.self.invariant.1 ∙ ap (λ (x : Account). calls_of x.receipts) c.self.view_is in
    let was = ap (λ (x : Account). x.seen) c.self.view_is in
    let items : c.push_reserved.new.self.items ≡ rs ++ r ∷ [] = search rules in
    let last : StandsLast o before behind p (entry e a) = search rules in
    receives_from o before behind _ _ p e a last mine was
    (items ∙ ap (λ (x : Account). x.receipts ++ r ∷ []) c.self.view_is) (search rules)
