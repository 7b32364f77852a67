use Rattle.std.proofs.Common.{◌≡◌, ◌<◌, true, false, Bool, [], length, get_or, sym, ap, ◌∙◌, arith}
use Rattle.std.specs.Prelude.{if◌then◌else◌}
use Rattle.std.proofs.lemmas.List.{get_or_default}
use Rattle.am_explore.specs.Standings.{is_of_thread, went}
use Rattle.am_explore.proofs.ListLemmas.{moved_given, moved_more, one_ended}
use Rattle.am_explore.proofs.standing.moved.Goals as goal
use Rattle.am_explore.proofs.standing.moved.Goals.{then-is_of_thread+in_ok-progress, else-is_of_thread+in_ok-progress-2}

pub loop-n-preserved : goal.loop-n-preserved
loop-n-preserved c =
    let n = c.loop-n.n in
    let threads = c.args.threads.now in
    let standings = c.args.standings.now in
    let answer = c.args.answer.now in
    let who = c.args.who in
    let in_threads : n < length threads = omega arith in
    let in_standings : n < length standings = omega arith in
    elim c.if-is_of_thread.branch [
      | then-is_of_thread+in_ok-progress w ↦
          let events = w.index-threads-n.result in
          let s = w.index-standings-n.result in
          let is_one : is_of_thread n who ≡ true = sym c.is_of_thread.ensures ∙ w.if-is_of_thread.true in
          rw c.in_ok-push.ensures.items
          (moved_more c.loop-n.all.items threads standings n who answer events s c.if-is_of_thread.progress in_threads
          in_standings w.index-threads-n.is w.index-standings-n.is
          (w.progress-is ∙ w.in_ok-progress.ensures
          ∙ sym (ap (λ (b : Bool). if b then went events answer s else s) is_one)) ∙ c.loop-n.invariant)
      | else-is_of_thread+in_ok-progress-2 w ↦
          let events = get_or threads n [] in
          let s = w.index-standings-n-else-is_of_thread.result in
          let is_none : is_of_thread n who ≡ false = sym c.is_of_thread.ensures ∙ w.if-is_of_thread.false in
          rw c.in_ok-push.ensures.items
          (moved_more c.loop-n.all.items threads standings n who answer events s c.if-is_of_thread.progress in_threads
          in_standings (get_or_default threads n [] events in_threads) w.index-standings-n-else-is_of_thread.is
          (w.progress-is ∙ w.in_ok-progress-2.ensures
          ∙ sym (ap (λ (b : Bool). if b then went events answer s else s) is_none)) ∙ c.loop-n.invariant)
    ]

pub returns : goal.returns
returns c =
    sym (moved_given c.loop-n.all.items c.args.threads.now c.args.standings.now c.loop-n.n c.args.who c.args.answer.now
    (one_ended _ _ _ (omega arith))) ∙ c.loop-n.invariant
