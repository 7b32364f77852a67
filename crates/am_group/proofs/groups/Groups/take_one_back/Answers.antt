use Rattle.std.proofs.Common.{◌≡◌, ◌∷◌, ◌++◌, [], List, Option, sym, ap, subst, ◌∙◌}
use Rattle.std.specs.Option.{option_to_list}
use Rattle.am_names.specs.{MemberRow}
use Rattle.am_group.specs.{IsOrderly, ListMembers, RiseFrom}
use Rattle.am_group.specs.View.{view_of}
use Rattle.am_group.proofs.IndexedLemmas.{members_lists_rise}
use Rattle.am_group.proofs.NewestLemmas.{newest_indexed, newest_orderly}
use Rattle.am_group.proofs.groups.Groups.take_one_back.Goals as goal

pub remove-requires-clause-members : goal.remove-requires-clause-members
remove-requires-clause-members c =
    (members_lists_rise c.self.inside.members.rows c.self.invariant.orderly.rising c.self.inside.indexes c.self.invariant.indexed.0).0

pub remove-requires-clause-slaves : goal.remove-requires-clause-slaves
remove-requires-clause-slaves c =
    (members_lists_rise c.self.inside.members.rows c.self.invariant.orderly.rising c.self.inside.indexes c.self.invariant.indexed.0).1

pub invariant_of-self : goal.invariant_of-self
invariant_of-self c =
    let s = view_of c.self.inside in
    let row = c.in-Some.row in
    let all : s.members ≡ c.pop.new.self.rows ++ row ∷ [] =
    c.pop.ensures.rows ∙ ap (λ (o : Option MemberRow). c.pop.new.self.rows ++ option_to_list o) c.in-Some.is in
    record {
      orderly = subst (λ (rows : List MemberRow). IsOrderly (record s { members = rows })) (sym c.pop.ensures.rest)
          (newest_orderly s 1 c.self.invariant.orderly);
      indexed = (
        newest_indexed c.pop.new.self.rows row c.self.inside.indexes c.remove.new.self
            (subst (λ (rows : List MemberRow). RiseFrom 0 rows) all c.self.invariant.orderly.rising)
            c.remove.ensures
            (subst (λ (rows : List MemberRow). ListMembers rows c.self.inside.indexes) all c.self.invariant.indexed.0),
        λ n. c.remove.ensures.below n ∙ c.self.invariant.indexed.1 n,
      );
    }
