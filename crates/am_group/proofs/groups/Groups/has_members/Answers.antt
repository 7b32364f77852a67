use Rattle.std.proofs.Common.{ℕ, List, length, not, ap, ◌∙◌}
use Rattle.std.specs.Prelude.{◌==◌}
use Rattle.am_names.specs.{MemberRow}
use Rattle.am_names.specs.PeerGroups.{PeerGroups}
use Rattle.am_group.specs.{has_members, is_in}
use Rattle.am_group.proofs.CountLemmas.{any_numbered}
use Rattle.am_group.proofs.groups.Groups.has_members.Goals as goal

pub returns : goal.returns
returns c =
    ap not c.is_empty.ensures ∙
    ap (λ (xs : List ℕ). not (length xs == 0)) (c.list.ensures ∙ c.self.invariant.indexed.0.members c.args.group) ∙
    any_numbered (λ (row : MemberRow). row.mount) (is_in c.args.group) c.self.inside.members.rows ∙
    ap (λ (x : PeerGroups). has_members x.members c.args.group) c.self.view_is
