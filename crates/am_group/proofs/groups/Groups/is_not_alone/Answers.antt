use Rattle.std.proofs.Common.{List, ℕ, Option, sym, ap, ◌∙◌}
use Rattle.std.specs.Prelude.{◌==◌, not}
use Rattle.std.specs.List.{list_any}
use Rattle.am_names.specs.{MemberRow}
use Rattle.am_names.specs.PeerGroups.{PeerGroups}
use Rattle.am_group.specs.{is_other_in, not_alone_in}
use Rattle.am_group.proofs.GoneLemmas.{other_listed}
use Rattle.am_group.proofs.groups.Groups.is_not_alone.Goals as goal

pub returns-in-Some : goal.returns-in-Some
returns-in-Some c =
    let m = c.row.inside.mount in
    let g = c.own.inside.0 in
    c.has_other.ensures ∙
    ap (λ (xs : List ℕ). list_any (λ x. not (x == m)) xs) (c.list.ensures ∙ c.self.invariant.indexed.0.members g) ∙
    other_listed m g c.self.inside.members.rows ∙
    ap (λ (x : PeerGroups). list_any (is_other_in m g) x.members) c.self.view_is ∙
    ap (λ (n : ℕ). list_any (is_other_in m n) c.args.self.now.members) c.own.view_is ∙
    ap (λ (o : Option ℕ). not_alone_in c.args.self.now m o) (sym c.in-Some.is ∙ c.group.ensures) ∙
    ap (λ (r : MemberRow). not_alone_in c.args.self.now r.mount c.args.row.now.group) c.row.view_is
