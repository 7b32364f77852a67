use Rattle.std.proofs.Common.{◌≡◌, ◌+◌, ◌∷◌, ◌++◌, [], List, take, arith, sym, ap, ◌∙◌}
use Rattle.am_names.specs.{MemberRow, row_with}
use Rattle.am_names.specs.declared.membership.Membership.TheVariants.{InGroup}
use Rattle.am_group.specs.{copies_from}
use Rattle.am_propagate.specs.{stand_of}
use Rattle.am_propagate.proofs.LoopLemmas.{copies_more}
use Rattle.am_propagate.proofs.subtree.Subtree.new_members.Goals as goal

pub loop-receiver-preserved : goal.loop-receiver-preserved
loop-receiver-preserved c =
    let s = c.args.self.now.groups in
    let i = c.loop-receiver.receiver-index in
    let receiver = c.receiver-item.result in
    let first = row_with (InGroup c.args.stands.now.new) c.args.mount in
    let at : c.loop-receiver.number ≡ c.args.mount + i = c.loop-receiver.invariant.number in
    let number : c.loop-receiver.number + 1 ≡ c.args.mount + 1 + i = omega arith in
    record {
      number = omega arith;
      rows =
          c.in_ok-push-2.ensures.items ∙
          ap (λ (xs : List MemberRow). xs ++ c.copy_row.result ∷ []) c.loop-receiver.invariant.rows ∙
          ap (λ (row : MemberRow). first ∷ copies_from (stand_of c.args.stands.now) s (c.args.mount + 1) (take i c.args.receivers.now) ++ row ∷ []) c.copy_row.ensures ∙
          ap (λ (xs : List MemberRow). first ∷ xs) (sym (copies_more (stand_of c.args.stands.now) s (c.args.mount + 1) (c.loop-receiver.number + 1) c.args.receivers.now i receiver c.loop-receiver-test.true c.receiver-item.is number));
    }
