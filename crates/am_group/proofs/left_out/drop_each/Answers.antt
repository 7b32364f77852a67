use Rattle.std.proofs.Common.{◌<◌, List, length, take, sym, ap, subst, ◌∙◌, rules}
use Rattle.std.specs.Prelude.{not}
use Rattle.am_names.specs.{GroupRow, is_among}
use Rattle.am_group.specs.Invariant.{GroupsRise}
use Rattle.am_group.proofs.LookupLemmas.{RiseBy-filter}
use Rattle.am_names.proofs.LeaveLemmas.{others, none_out, one_more_out}
use Rattle.am_group.proofs.left_out.drop_each.Goals as goal

pub loop-group-init : goal.loop-group-init
loop-group-init c = none_out (λ (row : GroupRow). row.group) c.args.groups.now.rows

pub drop_one-requires : goal.drop_one-requires
drop_one-requires c =
    let lost = take c.loop-group.group-index c.args.lost.now in
    subst (λ (xs : List GroupRow). GroupsRise xs) (sym c.loop-group.invariant)
    (RiseBy-filter (λ (row : GroupRow). row.group) (λ row. not (is_among lost row.group)) 0 c.args.groups.now.rows c.requires)

pub loop-group-preserved : goal.loop-group-preserved
loop-group-preserved c =
    let within : c.loop-group.group-index < length c.args.lost.now = search rules in
    c.drop_one.ensures ∙
    ap (others (λ (row : GroupRow). row.group) c.group-item.result) c.loop-group.invariant ∙
    one_more_out (λ (row : GroupRow). row.group) c.args.lost.now c.loop-group.group-index c.group-item.result within c.group-item.is c.args.groups.now.rows
