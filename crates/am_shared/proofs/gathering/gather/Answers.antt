use Rattle.std.proofs.Common.{◌≡◌, ℕ, List, [], ◌∷◌, ◌++◌, Some, rules, sym, ap, ◌∙◌, subst, length}
use Rattle.am_machine.specs.{Entry}
use Rattle.am_shared.specs.{Account, AllAgreeLeft, AtMostOnce, EachAgree, EachAgreeLeft, EachRise, Matches, Receipt}
use Rattle.am_shared.specs.{Rise, count_in, left_of}
use Rattle.am_shared.specs.Calls.{all_calls, calls_of}
use Rattle.am_shared.specs.Chronicle.{AreIn, weigh, weigh_to}
use Rattle.am_shared.specs.Passes.{view_of}
use Rattle.am_shared.proofs.CallLemmas.{all_calls_agree, all_match, all_snoc, at_most, counts, each_rise_snoc}
use Rattle.am_shared.proofs.MatchLemmas.{agree_front, agree_last, all_but_last, each_agree_left}
use Rattle.am_shared.proofs.gathering.gather.Goals as goal

pub returns-clause-count : goal.returns-clause-count
returns-clause-count g c =
    let h = c.take-shared.result.history in
    let cs = c.pop.new.self.items in
    let one = c.in-Some.last in
    let is : (view_of c.are_matched-is_matched.new.calling).mine ≡ calls_of one.receipts =
    c.are_matched-is_matched.ensures.caller.1 ∙ c.last.invariant.1
    ∙ ap (λ (a : Account). calls_of a.receipts) c.last.view_is in
    let was : c.pop.result ≡ Some one = search rules in
    let all : c.args.callers.items ≡ cs ++ one ∷ [] =
    all_but_last c.args.callers.items cs c.pop.result one c.pop.ensures.items was in
    let calls = ap (λ l. all_calls cs ++ l) is ∙ sym (all_snoc cs one) in
    let once : (f : ℕ → ℕ) → weigh f (all_calls (cs ++ one ∷ [])) ≡ weigh_to f (length h) =
    λ f. sym (ap (weigh f) calls) ∙ c.take-shared.ensures.once f in
    let count : length h ≡ count_in c.args.callers.items =
    counts (length h) (cs ++ one ∷ []) once ∙ sym (ap count_in all) in
    (c.count-count.ensures ∙ count, count)

pub returns-clause-matched : goal.returns-clause-matched
returns-clause-matched g c =
    let h = c.take-shared.result.history in
    let cs = c.pop.new.self.items in
    let one = c.in-Some.last in
    let is : (view_of c.are_matched-is_matched.new.calling).mine ≡ calls_of one.receipts =
    c.are_matched-is_matched.ensures.caller.1 ∙ c.last.invariant.1
    ∙ ap (λ (a : Account). calls_of a.receipts) c.last.view_is in
    let was : c.pop.result ≡ Some one = search rules in
    let all : c.args.callers.items ≡ cs ++ one ∷ [] =
    all_but_last c.args.callers.items cs c.pop.result one c.pop.ensures.items was in
    let calls = ap (λ l. all_calls cs ++ l) is ∙ sym (all_snoc cs one) in
    let rise : EachRise (cs ++ one ∷ []) =
    each_rise_snoc cs one c.take-shared.ensures.rise
    (subst (λ (a : Account). Rise 0 a.receipts) c.last.view_is c.last.invariant.2) in
    subst (λ (l : List Account). Matches h l) (sym all)
    (all_match h (cs ++ one ∷ [])
    (subst (λ (l : List (ℕ × Entry)). AreIn h l) calls c.take-shared.ensures.calls)
    (λ f. sym (ap (weigh f) calls) ∙ c.take-shared.ensures.once f) rise)

pub returns-clause-test : goal.returns-clause-test
returns-clause-test g c =
    let h = c.take-shared.result.history in
    let cs = c.pop.new.self.items in
    let one = c.in-Some.last in
    let is : (view_of c.are_matched-is_matched.new.calling).mine ≡ calls_of one.receipts =
    c.are_matched-is_matched.ensures.caller.1 ∙ c.last.invariant.1
    ∙ ap (λ (a : Account). calls_of a.receipts) c.last.view_is in
    let was : c.pop.result ≡ Some one = search rules in
    let all : c.args.callers.items ≡ cs ++ one ∷ [] =
    all_but_last c.args.callers.items cs c.pop.result one c.pop.ensures.items was in
    let calls = ap (λ l. all_calls cs ++ l) is ∙ sym (all_snoc cs one) in
    let once : (f : ℕ → ℕ) → weigh f (all_calls (cs ++ one ∷ [])) ≡ weigh_to f (length h) =
    λ f. sym (ap (weigh f) calls) ∙ c.take-shared.ensures.once f in
    let rise : EachRise (cs ++ one ∷ []) =
    each_rise_snoc cs one c.take-shared.ensures.rise
    (subst (λ (a : Account). Rise 0 a.receipts) c.last.view_is c.last.invariant.2) in
    let agree : EachAgree h (cs ++ one ∷ []) =
    all_calls_agree h (cs ++ one ∷ [])
    (subst (λ (l : List (ℕ × Entry)). AreIn h l) calls c.take-shared.ensures.calls) in
    let test = c.are_matched-is_matched.ensures.test in
    let found : Some test.0 ≡ Some c.take-shared.result = search rules in
    let same : h ≡ (test.0).history = cc in
    let given : c.as_slice.result.now ≡ cs ++ one ∷ [] = search rules in
    let in_order = c.are_in_order-in_order.ensures.1
    (subst (λ (l : List Account). EachRise l × AtMostOnce l) (sym given)
    (rise, at_most (length h) (cs ++ one ∷ []) once)) in
    let front : c.as_slice-2.result.now ≡ cs = search rules in
    let last : c.as_slice-3.result.now ≡ c.last.inside.receipts.items = search rules in
    let left : EachAgreeLeft (test.0).taken (left_of test.0) (cs ++ one ∷ []) =
    each_agree_left (test.0).history (test.0).taken (cs ++ one ∷ [])
    (subst (λ (l : List Entry). EachAgree l (cs ++ one ∷ [])) same agree) in
    test.2.1 (
      in_order,
      subst (λ (l : List Account). EachAgreeLeft (test.0).taken (left_of test.0) l) (sym front)
          (agree_front (test.0).taken (left_of test.0) cs one left),
      subst (λ (l : List Receipt). AllAgreeLeft (test.0).taken (left_of test.0) l)
          (sym (last ∙ ap (λ (a : Account). a.receipts) c.last.view_is))
          (agree_last (test.0).taken (left_of test.0) cs one left),
    )
