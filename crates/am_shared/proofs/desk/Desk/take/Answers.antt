use Rattle.std.proofs.Common.{◌≡◌, ℕ, List, ◌++◌, Some, length, rules, sym, ap, ◌∙◌, subst, arith}
use Rattle.am_machine.specs.{Entry}
use Rattle.am_shared.specs.{Known}
use Rattle.am_shared.specs.Calls.{all_calls}
use Rattle.am_shared.specs.Chronicle.{AreIn, weigh, weigh_to}
use Rattle.am_shared.specs.Passes.{view_of}
use Rattle.am_shared.proofs.ApplyLemmas.{shared_from}
use Rattle.am_shared.proofs.DeskLemmas.{kept_of}
use Rattle.am_shared.proofs.desk.Desk.take.Goals as goal

pub returns-clause-shared : goal.returns-clause-shared
returns-clause-shared g c =
    let there : c.self.inside.shared ≡ Some c.in-Some.shared = search rules in
    let kept = kept_of _ _ _ _ _ _ _ _ c.in-Some.shared there c.self.invariant.3 in
    shared_from g.L.Opened.opening c.in-Some.shared c.history-history.ensures.shared kept.1

pub returns-clause-calls : goal.returns-clause-calls
returns-clause-calls g c =
    let there : c.self.inside.shared ≡ Some c.in-Some.shared = search rules in
    let kept = kept_of _ _ _ _ _ _ _ _ c.in-Some.shared there c.self.invariant.3 in
    let calls = all_calls c.args.callers.items in
    let theirs = (view_of c.args.last).mine in
    let keeper = c.hand_in.ensures.keeper.1 in
    let mine : (view_of c.hand_in.new.keeping).mine ≡ calls ++ theirs =
    ap (λ (v : Known). v.mine) keeper
    ∙ ap (λ l. l ++ theirs) (c.hand_all_in.ensures.mine ∙ ap (λ (v : Known). v.mine ++ calls) kept.0) in
    let all : (view_of c.hand_in.new.keeping).all ≡ c.in-Some.shared.history =
    ap (λ (v : Known). v.all) keeper ∙ c.hand_all_in.ensures.keeper.2 ∙ ap (λ (v : Known). v.all) kept.0 in
    subst (λ (y : List Entry × List (ℕ × Entry)). AreIn y.0 y.1) (λ i. (all i, mine i)) c.hand_in.ensures.calls

pub returns-clause-once : goal.returns-clause-once
returns-clause-once g c f =
    let there : c.self.inside.shared ≡ Some c.in-Some.shared = search rules in
    let kept = kept_of _ _ _ _ _ _ _ _ c.in-Some.shared there c.self.invariant.3 in
    let calls = all_calls c.args.callers.items in
    let theirs = (view_of c.args.last).mine in
    let keeper = c.hand_in.ensures.keeper.1 in
    let mine : (view_of c.hand_in.new.keeping).mine ≡ calls ++ theirs =
    ap (λ (v : Known). v.mine) keeper
    ∙ ap (λ l. l ++ theirs) (c.hand_all_in.ensures.mine ∙ ap (λ (v : Known). v.mine ++ calls) kept.0) in
    let all : (view_of c.hand_in.new.keeping).all ≡ c.in-Some.shared.history =
    ap (λ (v : Known). v.all) keeper ∙ c.hand_all_in.ensures.keeper.2 ∙ ap (λ (v : Known). v.all) kept.0 in
    let parts : (view_of c.hand_in.new.keeping).parts ≡ (view_of c.hand_in.new.keeping).made =
    omega (
      arith,
      ap (λ (v : Known). v.parts) keeper,
      c.hand_all_in.ensures.parts,
      ap (λ (v : Known). v.parts) kept.0,
      ap (λ (v : Known). v.parts) c.requires.last.1,
      c.requires.all,
      ap (λ (v : Known). v.made) keeper,
      c.hand_all_in.ensures.keeper.1,
      ap (λ (v : Known). v.made) kept.0,
    ) in
    sym (ap (weigh f) mine) ∙ c.hand_in.ensures.once parts f
    ∙ ap (λ (l : List Entry). weigh_to f (length l)) all
