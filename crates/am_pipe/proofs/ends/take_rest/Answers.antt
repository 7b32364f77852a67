use Rattle.std.proofs.Common.{◌≡◌, ◌++◌, ◌∷◌, [], length, ap, sym, ◌∙◌, subst, rules, arith}
use Rattle.std.proofs.Common.{length-append, append_assoc}
use Rattle.std.proofs.lemmas.List.{append-nil}
use Rattle.am_pipe.specs.{EndView, AreAsPut, end_view, known, weigh, weigh_to}
use Rattle.am_pipe.proofs.MoveLemmas.{takes}
use Rattle.am_pipe.proofs.RestLemmas.{knows, left_count, as_put}
use Rattle.am_pipe.proofs.ends.take_rest.Goals as goal

pub len_as-count-requires-clause-rule : goal.len_as-count-requires-clause-rule
len_as-count-requires-clause-rule g c = knows _ _ c.requires.whole.0 c.requires.whole.1

pub loop-i-init : goal.loop-i-init
loop-i-init g c =
    let v = known c.args.pass in
    let held = c.len_as-count.ensures.rule.1 in
    let got : v.got ++ c.args.left.items ≡ v.got =
    ap (λ l. v.got ++ l) c.requires.room.0 ∙ append-nil v.got in record {
      queue = search rules;
      view = c.len_as-count.ensures.queue.1
          ∙ ap (λ l. end_view v.puts v.made v.parts v.sent l) (sym got);
      len = search rules;
      fits = search rules;
      left = left_count v held.0 c.len_as-count.result held.1 held.2;
    }

pub pop_as-requires-clause-rule : goal.pop_as-requires-clause-rule
pop_as-requires-clause-rule g c =
    let v = c.loop-i.invariant.view in
    let may = ap (λ w. w.puts) v ∙ c.requires.whole.0 in
    let all = ap (λ w. w.parts) v ∙ c.requires.whole.1 ∙ sym (ap (λ w. w.made) v) in
    (takes _ _ (λ none. may), knows _ _ may all)

pub unreachable-requires : goal.unreachable-requires
unreachable-requires g c =
    let inv = c.loop-i.invariant in
    let held = c.in-None.ensures.rule.1 in
    let all = left_count (known c.loop-i.pass) held.0 0 held.1 held.2 in
    let sum = length-append (known c.args.pass).got c.loop-i.left.items in
    omega (
      arith,
      all,
      ap (λ w. length w.got) inv.view,
      ap (λ w. length w.sent) inv.view,
      sum,
      c.loop-i.left.ok.0,
      inv.len,
      inv.left,
    )

pub loop-i-preserved : goal.loop-i-preserved
loop-i-preserved g c =
    let inv = c.loop-i.invariant in
    let x = c.in-Some.x in
    let was = known c.args.pass in
    let more = append_assoc was.got c.loop-i.left.items (x ∷ [])
    ∙ ap (λ l. was.got ++ l) (sym c.push_reserved.ensures.items) in record {
      queue = search rules;
      view = c.in-Some.ensures.rule.0
          ∙ ap (λ u. end_view u.puts u.made u.parts u.sent (u.got ++ x ∷ [])) inv.view
          ∙ ap (λ l. end_view was.puts was.made was.parts was.sent l) more;
      len = search rules;
      fits = search rules;
      left = search rules;
    }

pub learn_as-requires-clause-rule : goal.learn_as-requires-clause-rule
learn_as-requires-clause-rule g c =
    let v = c.loop-i.invariant.view in
    let all = ap (λ w. w.parts) v ∙ c.requires.whole.1 ∙ sym (ap (λ w. w.made) v) in
    knows _ _ (ap (λ w. w.puts) v ∙ c.requires.whole.0) all

pub returns-clause-notes : goal.returns-clause-notes
returns-clause-notes g c =
    let k = c.learn_as.ensures.rule.1 in
    subst (λ (u : EndView). AreAsPut u.sent u.got) c.loop-i.invariant.view (as_put _ _ _ k.held)

pub returns-clause-once : goal.returns-clause-once
returns-clause-once g c h =
    let inv = c.loop-i.invariant in
    let v = known c.loop-i.pass in
    let was = known c.args.pass in
    let k = c.learn_as.ensures.rule.1 in
    let sum = length-append was.got c.loop-i.left.items in
    let all : length v.got ≡ length was.sent =
    omega (arith, ap (λ w. length w.got) inv.view, sum, c.loop-i.left.ok.0, inv.len, inv.left) in
    ap (λ u. weigh h u.got) (sym inv.view) ∙ k.once h ∙ ap (weigh_to h) all
