use Rattle.std.proofs.Common.{◌≡◌, ◌∙◌, true, subst, sym}
use Rattle.std.proofs.Math.Seq.{drop-append_seam}
use Rattle.am_shared.specs.{IsShared, keeps_events, left_of}
use Rattle.am_shared.specs.Sharing.{Sharing}
use Rattle.am_shared.proofs.ApplyLemmas.{all_left}
use Rattle.am_shared.proofs.shared.Shared.history.Goals as goal

pub returns-clause-left : goal.returns-clause-left
returns-clause-left c =
    let parts = c.self.inside.parts in
    subst (λ (s : Sharing). c.as_slice.result.now ≡ left_of s) c.self.view_is
    (c.as_slice.ensures.value ∙ sym (drop-append_seam parts.taken.items parts.history.items))

pub returns-clause-whole : goal.returns-clause-whole
returns-clause-whole c =
    let parts = c.self.inside.parts in
    subst (λ (s : Sharing). keeps_events s.keep ≡ true → c.as_slice.result.now ≡ s.history) c.self.view_is
    (λ all. c.as_slice.ensures.value ∙ all_left parts.taken.items parts.history.items (c.self.invariant.0.untaken all))

pub returns-clause-shared : goal.returns-clause-shared
returns-clause-shared c = subst (λ (s : Sharing). IsShared s) c.self.view_is (record {
  kept = c.self.invariant.0;
  lawful = c.trace.ensures.lawful;
  tells = c.trace.ensures.tells;
  reached = c.trace.ensures.reached;
  agree = c.trace.ensures.agree;
  in_step = c.trace.ensures.in_step;
})
