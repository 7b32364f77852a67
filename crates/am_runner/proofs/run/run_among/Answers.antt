use Rattle.std.proofs.Common.{◌≡◌, ◌∙◌, List, [], All, ap, sym}
use Rattle.std.proofs.lemmas.List.Elements.{All-pop, All-weaker}
use Rattle.am_shared.specs.{Account, newcomer}
use Rattle.am_runner.proofs.RunLemmas.{popped}
use Rattle.am_runner.proofs.run.run_among.Goals as goal

pub attach-requires-clause-none : goal.attach-requires-clause-none
attach-requires-clause-none g c =
    ap (λ (caller : Account). caller.receipts) (popped record {} (λ (caller : Account). caller ≡ newcomer)
    c.in_ok-others.others.items c.pop.new.self.items c.pop.result c.in_ok-ok_or.field-0
    (sym c.ok_or.ensures.value ∙ c.in_ok-ok_or.was) c.pop.ensures.items c.in_ok-others.ensures.each)

pub all_in_scope-requires-clause-fresh : goal.all_in_scope-requires-clause-fresh
all_in_scope-requires-clause-fresh g c lifetimes live =
    All-weaker (λ (caller : Account). caller ≡ newcomer) (λ (caller : Account). caller.receipts ≡ [])
    (λ caller is. ap (λ (x : Account). x.receipts) is) c.pop.new.self.items
    (All-pop (λ (caller : Account). caller ≡ newcomer) c.in_ok-others.others.items c.pop.new.self.items
    c.pop.result c.pop.ensures.items c.in_ok-others.ensures.each).0
