use Rattle.std.proofs.Common.{◌≡◌, [], ◌∷◌, ◌++◌, length, drop, length-append, rules, refl, ap, ◌∙◌, arith, sym, subst}
use Rattle.am_machine.specs.{Answer, entry}
use Rattle.am_shared.specs.{Applies, notes_of, sharing_of}
use Rattle.am_shared.specs.Sharing.{Sharing}
use Rattle.am_shared.proofs.ApplyLemmas.{kept_after, lends_no_less, left_behind, none_handed, one_behind, one_longer, one_note_at_most, seen_behind, stepped_from}
use Rattle.am_shared.proofs.parts.make.Goals as goal

pub collect-requires-clause-from : goal.collect-requires-clause-from
collect-requires-clause-from g c =
    let old = c.args.parts.now.world in
    let gone = c.let_go.new.world in
    let new = c.step_pair-kept.new.self in
    let step = stepped_from old gone new c.args.event c.step_pair-kept.result.0 c.let_go.ensures.same c.step_pair-kept.ensures.step in
    lends_no_less old gone new c.args.event c.step_pair-kept.result.0 c.trace-seen.result.now c.trace.result.now step
    c.let_go.ensures.trace c.trace-seen.ensures.count c.step_pair-kept.ensures.kept c.trace.ensures.count

pub collect-requires-clause-room : goal.collect-requires-clause-room
collect-requires-clause-room g c =
    let old = c.args.parts.now.world in
    let gone = c.let_go.new.world in
    let new = c.step_pair-kept.new.self in
    let step = stepped_from old gone new c.args.event c.step_pair-kept.result.0 c.let_go.ensures.same c.step_pair-kept.ensures.step in
    let one = one_note_at_most old new c.args.event c.step_pair-kept.result.0 step in
    let same = ap (λ l. length (notes_of l))
    (seen_behind old gone new c.trace-seen.result.now c.trace.result.now c.let_go.ensures.trace
    c.trace-seen.ensures.count c.step_pair-kept.ensures.kept c.trace.ensures.trace) in
    omega (arith, c.requires.room.unsent, one, same)

pub returns-clause-kept : goal.returns-clause-kept
returns-clause-kept g c =
    let old = c.args.parts.now.world in
    let gone = c.let_go.new.world in
    let new = c.step_pair-kept.new.self in
    let keep = c.args.parts.now.keep in
    let step = stepped_from old gone new c.args.event c.step_pair-kept.result.0 c.let_go.ensures.same c.step_pair-kept.ensures.step in
    let whole = none_handed keep old new.handed (c.step_pair-kept.ensures.kept ∙ c.let_go.ensures.handed) c.requires.kept.whole in
    let collected : c.collect.new.unsent.items
    ≡ c.args.parts.now.unsent.items ++ notes_of (drop (length old.trace) new.trace) =
    c.collect.ensures ∙ ap (λ l. c.args.parts.now.unsent.items ++ notes_of l)
    (seen_behind old gone new c.trace-seen.result.now c.trace.result.now c.let_go.ensures.trace
    c.trace-seen.ensures.count c.step_pair-kept.ensures.kept c.trace.ensures.trace) in
    let e = entry c.args.event c.step_pair-kept.result.0 in
    let taken = c.args.parts.now.taken.items in
    let left = c.args.parts.now.history.items in
    let later = one_behind taken left c.push_reserved.new.self.items e (search rules) in
    kept_after old new c.args.event c.step_pair-kept.result.0 (taken ++ left)
    (taken ++ c.push_reserved.new.self.items) c.args.parts.now.put.sent c.args.parts.now.unsent.items
    c.collect.new.unsent.items c.args.parts.now.put.looks c.flush.new.put c.flush.new.unsent.items keep (length taken)
    step later collected c.flush.ensures.notes
    c.flush.ensures.flushed c.requires.kept.legal c.requires.kept.notes whole c.requires.kept.untaken

pub returns-clause-one : goal.returns-clause-one
returns-clause-one g c =
    let old = c.args.parts.now.world in
    let gone = c.let_go.new.world in
    let new = c.step_pair-kept.new.self in
    let step = stepped_from old gone new c.args.event c.step_pair-kept.result.0 c.let_go.ensures.same c.step_pair-kept.ensures.step in
    let e = entry c.args.event c.step_pair-kept.result.0 in
    let taken = c.args.parts.now.taken.items in
    let left = c.args.parts.now.history.items in
    let pushed : c.push_reserved.new.self.items ≡ left ++ e ∷ [] = search rules in
    let history = one_behind taken left c.push_reserved.new.self.items e pushed in
    let after : Sharing = record {
      world = new;
      history = taken ++ c.push_reserved.new.self.items;
      taken = length taken;
      put = c.flush.new.put;
      unsent = c.flush.new.unsent.items;
      keep = c.args.parts.now.keep;
    } in
    subst (λ (a : Answer). Applies (sharing_of c.args.parts.now) after c.args.event c.args.position a) (sym c.step_pair-kept.ensures.same)
    (record {
      seen = step.0;
      step = step.1;
      history = history;
      is_last = one_longer taken left c.push_reserved.new.self.items e c.args.parts.now.before c.args.position pushed c.requires.counted.0 (omega (arith, c.requires.position.0));
      taken = refl;
      left = left_behind taken left c.push_reserved.new.self.items e pushed;
      put = search rules;
      keep = refl;
      handed = c.step_pair-kept.ensures.kept ∙ c.let_go.ensures.handed;
    })

pub returns-clause-counted : goal.returns-clause-counted
returns-clause-counted g c =
    let e = entry c.args.event c.step_pair-kept.result.0 in
    let left = c.args.parts.now.history.items in
    let pushed : c.push_reserved.new.self.items ≡ left ++ e ∷ [] = search rules in
    (c.requires.counted.0, omega (arith, ap length pushed, length-append left (e ∷ []), c.requires.position.0, c.requires.position.1))
