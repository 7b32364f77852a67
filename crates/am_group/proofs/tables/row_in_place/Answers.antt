use Rattle.std.proofs.Common.{Some, sym, ap, ◌∙◌, rules}
use Rattle.am_names.specs.{MemberRow}
use Rattle.am_group.proofs.FindLemmas.{found_in_place}
use Rattle.am_group.proofs.tables.row_in_place.Goals as goal

pub returns-in-Some : goal.returns-in-Some
returns-in-Some c =
    found_in_place (λ (row : MemberRow). row.mount) c.args.members.now c.requires c.saturating_sub-place.result c.args.mount
    c.in-Some.row.now (search rules) (search rules) (search rules) ∙
    ap (λ (r : MemberRow). Some r) (sym c.row.view_is)
