use Rattle.std.proofs.Common.{◌<◌, List, length, take, sym, ap, subst, ◌∙◌, rules}
use Rattle.std.specs.Prelude.{not}
use Rattle.am_names.specs.{MemberRow, is_among}
use Rattle.am_group.specs.{RiseFrom}
use Rattle.am_group.proofs.LookupLemmas.{RiseFrom-filter}
use Rattle.am_names.proofs.LeaveLemmas.{others, none_out, one_more_out}
use Rattle.am_group.proofs.left_out.leave_each_out.Goals as goal

pub loop-mount-init : goal.loop-mount-init
loop-mount-init c = none_out (λ (row : MemberRow). row.mount) c.args.members.now.rows

pub leave_one_out-requires : goal.leave_one_out-requires
leave_one_out-requires c =
    let gone = take c.loop-mount.mount-index c.args.gone.now in
    subst (λ (xs : List MemberRow). RiseFrom 0 xs) (sym c.loop-mount.invariant)
    (RiseFrom-filter (λ row. not (is_among gone row.mount)) 0 c.args.members.now.rows c.requires)

pub loop-mount-preserved : goal.loop-mount-preserved
loop-mount-preserved c =
    let within : c.loop-mount.mount-index < length c.args.gone.now = search rules in
    c.leave_one_out.ensures ∙
    ap (others (λ (row : MemberRow). row.mount) c.mount-item.result) c.loop-mount.invariant ∙
    one_more_out (λ (row : MemberRow). row.mount) c.args.gone.now c.loop-mount.mount-index c.mount-item.result within c.mount-item.is c.args.members.now.rows
