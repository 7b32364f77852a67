use Rattle.std.proofs.Common.{List, ℕ, ap, ◌∙◌}
use Rattle.std.specs.List.{list_all}
use Rattle.am_names.specs.{is_among}
use Rattle.am_names.specs.PeerGroups.{PeerGroups}
use Rattle.am_group.specs.{goes_whole}
use Rattle.am_group.proofs.groups.Groups.goes_whole.Goals as goal

pub returns : goal.returns
returns c =
    c.all_go.ensures ∙
    ap (λ (xs : List ℕ). list_all (is_among c.args.gone.now) xs) (c.list.ensures ∙ c.self.invariant.indexed.0.members c.group.inside.0) ∙
    ap (λ (x : PeerGroups). goes_whole x.members c.args.gone.now c.group.inside.0) c.self.view_is ∙
    ap (λ (g : ℕ). goes_whole c.args.self.now.members c.args.gone.now g) c.group.view_is
