use Rattle.std.proofs.Common.{rules, ap, ◌∙◌}
use Rattle.am_master.specs.{is_taken}
use Rattle.am_master.proofs.PlaceLemmas.{not_placed, one_more_point}
use Rattle.am_master.proofs.master.Master.add.Goals as goal

pub add-requires : goal.add-requires
add-requires c =
    not_placed c.self.inside.points c.self.inside.entries.items c.args.point c.self.invariant
    (ap (λ rows. is_taken rows c.args.point) c.self.view_is ∙ c.requires)

pub invariant_of-self-2 : goal.invariant_of-self-2
invariant_of-self-2 c =
    rw (c.in_ok-add.ensures.ok, c.push_reserved.ensures.items, c.in_ok-reserve.ensures.items)
    (one_more_point c.self.inside.points c.self.inside.entries.items _ c.len.result c.self.invariant (search rules) c.in_ok-add.ensures.named)
