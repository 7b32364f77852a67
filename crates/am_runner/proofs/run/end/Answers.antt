use Rattle.std.proofs.Common.{◌≡◌, ◌∙◌, List, ◌++◌, All, ap, length, refl, sym, subst}
use Rattle.std.proofs.lemmas.Fn.{gave_at}
use Rattle.atomic_table.specs.Seated.{TableId}
use Rattle.am_pipe.specs.{AreAsPut, Note, Taker, taken_by}
use Rattle.am_pipe.specs.Ends.{HasEachOnce}
use Rattle.am_shared.specs.Sharing.{Sharing}
use Rattle.am_runner.specs.{TakePart}
use Rattle.am_runner.proofs.PartLemmas.{all_of_pipe}
use Rattle.am_runner.proofs.RunLemmas.{run_of}
use Rattle.am_runner.proofs.run.end.Goals as goal

pub gather-requires-clause-pipe : goal.gather-requires-clause-pipe
gather-requires-clause-pipe g c =
    let takers = c.args.back.takers.items in
    let take : TakePart g.L.Planned.plan g.L.Opened.pipe c.args.workers takers c.args.back.callers.items =
    c.requires.take in
    let pipe : c.into_parts-put.result.put.pipe ≡ g.L.Opened.pipe =
    ap (λ (s : Sharing). s.put.pipe) c.into_parts-put.ensures.parts ∙ c.gather-gathered.ensures.put.0 in
    subst (λ (p : TableId). All (λ (taker : Taker). taker.pipe ≡ p) takers) (sym pipe)
    (all_of_pipe g.L.Opened.pipe takers take.working take.serves)

pub returns-clause-run : goal.returns-clause-run
returns-clause-run g c =
    let takers = c.args.back.takers.items in
    let callers = c.args.back.callers.items in
    let s = c.gather-gathered.result.shared in
    let left = c.in-Ok.left.items in
    let notes = taken_by takers ++ left in
    let sent : c.into_parts-put.result.put.sent ≡ s.put.sent =
    ap (λ (x : Sharing). x.put.sent) c.into_parts-put.ensures.parts in
    let as_put : AreAsPut s.put.sent notes =
    subst (λ (ns : List Note). AreAsPut ns notes) sent c.in-Ok.ensures.notes in
    let once : HasEachOnce (length s.put.sent) notes =
    subst (λ (ns : List Note). HasEachOnce (length ns) notes) sent c.in-Ok.ensures.once in (
      s,
      run_of g.L.Opened.opening g.L.Planned.plan g.L.Opened.pipe c.args.workers s takers callers left
          c.gather-gathered.ensures.shared c.gather-gathered.ensures.put.0 c.requires.take
          c.gather-gathered.ensures.matched
          (c.packets_are_taken_left_or_unsent.ensures s notes c.into_parts-put.ensures.shared as_put once)
          (c.gather-gathered.ensures.put.2 ∙ c.requires.room)
          (c.gather-gathered.ensures.keep ∙ c.requires.keep),
      gave_at g.F.FnOnce c.judge-found.ensures refl,
    )
