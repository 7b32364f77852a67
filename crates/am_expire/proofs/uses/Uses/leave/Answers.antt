use Rattle.std.proofs.Common.{◌≡◌, List, Some, sym, ap, subst, ◌∙◌}
use Rattle.std.specs.Prelude.{map}
use Rattle.am_expire.specs.{Use, mount_of_walker, left, IsInNoMore, HasOneMore}
use Rattle.am_expire.specs.View.{use_of, IsSingle, AreCounts}
use Rattle.am_expire.proofs.UseLemmas.{leaves, leaves_count, leaves_single}
use Rattle.am_expire.proofs.IndexLemmas.{left_is, counts_left, counted_there}
use Rattle.am_expire.proofs.uses.Uses.leave.Goals as goal

pub count_down-requires : goal.count_down-requires
count_down-requires c =
    let rows = map use_of c.self.inside.mounts.entries in
    let there : mount_of_walker rows c.args.walker ≡ Some c.in-Some.mount =
    ap (λ (u : List Use). mount_of_walker u c.args.walker) c.self.view_is
    ∙ sym c.mount_of_walker.ensures ∙ c.in-Some.is in
    counted_there c.args.walker c.in-Some.mount rows c.self.inside.counts.entries
    c.self.invariant.single there c.self.invariant.counts

pub returns-clause-ok : goal.returns-clause-ok
returns-clause-ok c =
    let walker = c.walker.inside.0 in
    rw (← c.walker.view_is)
    (ap (map use_of) c.remove-left.ensures.entries
    ∙ left_is walker c.self.inside.mounts.entries c.self.invariant.single
    ∙ ap (left walker) c.self.view_is)

pub returns-clause-map : goal.returns-clause-map
returns-clause-map c =
    subst (λ (rows : List Use). IsInNoMore c.args.walker c.args.self.now rows)
    (sym (returns-clause-ok c)) (leaves c.args.self.now c.args.walker)

pub returns-clause-count : goal.returns-clause-count
returns-clause-count c =
    subst (λ (rows : List Use). HasOneMore c.in-Some.mount rows c.args.self.now)
    (sym (returns-clause-ok c))
    (leaves_count c.args.self.now c.args.walker c.in-Some.mount
    (subst IsSingle c.self.view_is c.self.invariant.single)
    (sym c.mount_of_walker.ensures ∙ c.in-Some.is))

pub invariant_of-self : goal.invariant_of-self
invariant_of-self c =
    let single : IsSingle c.args.self.now = subst IsSingle c.self.view_is c.self.invariant.single in
    let agree : AreCounts c.self.inside.counts.entries c.args.self.now =
    subst (AreCounts c.self.inside.counts.entries) c.self.view_is c.self.invariant.counts in
    record {
      single = subst IsSingle (sym (returns-clause-ok c)) (leaves_single c.args.self.now c.args.walker single);
      counts = subst (AreCounts c.count_down.new.counts.entries) (sym (returns-clause-ok c))
          (counts_left c.args.walker c.in-Some.mount c.args.self.now c.self.inside.counts.entries c.count_down.new.counts.entries
          single (sym c.mount_of_walker.ensures ∙ c.in-Some.is) agree c.count_down.ensures);
    }
