use Rattle.std.proofs.Common.{◌≡◌, List, Some, rules, sym, ap, ◌∙◌, subst}
use mathlib.Core.List.{IsPrefix}
use Rattle.am_machine.specs.{Entry}
use Rattle.am_shared.specs.{Known, keeps_events}
use Rattle.am_shared.specs.Sharing.{Sharing}
use Rattle.am_shared.specs.Chronicle.{AreIn, keeper}
use Rattle.am_shared.specs.Passes.{view_of}
use Rattle.am_shared.proofs.ApplyLemmas.{shared_from}
use Rattle.am_shared.proofs.DeskLemmas.{kept_of, kept_taken}
use Rattle.am_shared.proofs.desk.Desk.take_history.Goals as goal

pub take_history-entries-requires : goal.take_history-entries-requires
take_history-entries-requires g c =
    let old = c.in-Some.shared.now in
    let there : c.self.inside.shared ≡ Some old = search rules in
    let kept = kept_of _ _ _ _ _ _ _ _ old there c.self.invariant.3 in
    ap keeps_events (kept.5 ∙ c.requires.keep)

pub invariant_of-self : goal.invariant_of-self
invariant_of-self g c =
    let old = c.in-Some.shared.now in
    let new = c.take_history-entries.new.self in
    let there : c.self.inside.shared ≡ Some old = search rules in
    let kept = kept_of _ _ _ _ _ _ _ _ old there c.self.invariant.3 in
    let all = c.take_history-entries.ensures.taken in
    let m = c.meet.ensures.keeper in
    let view_old : view_of c.meet.new.keeping ≡ keeper g.L.Opened.callers old.history = m.1 ∙ kept.0 in
    let view : view_of c.meet.new.keeping ≡ keeper g.L.Opened.callers new.history =
    view_old ∙ ap (λ (s : Sharing). keeper g.L.Opened.callers s.history) (sym all) in (
      (m.0.0.0 ∙ c.requires.history, c.self.invariant.0.1, m.0.0.2),
      ap (λ (v : Known). v.keeps) view,
      ap (λ (v : Known). v.made) view,
      kept_taken _ _ _ _ _ _ _ old new all (view_old, kept.1, kept.2, kept.3, kept.4, kept.5),
    )

pub returns-clause-taken : goal.returns-clause-taken
returns-clause-taken g c =
    let old = c.in-Some.shared.now in
    let there : c.self.inside.shared ≡ Some old = search rules in
    let kept = kept_of _ _ _ _ _ _ _ _ old there c.self.invariant.3 in
    let before = view_of c.args.taking.now in
    let all : (view_of c.self.inside.keeping).all ≡ old.history = ap (λ (v : Known). v.all) kept.0 in (
      old,
      search rules,
      ap Some c.take_history-entries.ensures.taken,
      shared_from g.L.Opened.opening old c.history-history.ensures.shared kept.1,
      subst (λ (l : List Entry). AreIn l before.mine) all c.meet.ensures.calls,
      subst (λ (l : List Entry). IsPrefix before.seen l) all c.meet.ensures.seen,
      ap (λ (v : Known). v.seen) c.meet.ensures.caller.1 ∙ all,
      c.taken-before.ensures.count,
      c.take_history-entries.ensures.entries,
      c.taken-before.ensures.within,
    )
