use Rattle.std.proofs.Common.{◌≡◌, ◌<◌, ℕ, nat_eq, List, None, sym, ap, subst, ◌∙◌, arith}
use Rattle.std.specs.Prelude.{map, is_some}
use Rattle.am_names.proofs.Basics.{none_where_not_some}
use Rattle.am_ordered.specs.{insert_entry}
use Rattle.am_expire.specs.{Use, mount_of_walker, entered, IsInToo, HasOneMore, CountsOneMore}
use Rattle.am_expire.specs.View.{use_of, IsSingle, AreCounts}
use Rattle.am_expire.proofs.UseLemmas.{enters, enters_count, enters_single}
use Rattle.am_expire.proofs.IndexLemmas.{inserted_last, counts_entered}
use Rattle.am_expire.proofs.uses.Uses.enter.Goals as goal

pub returns-clause-ok : goal.returns-clause-ok
returns-clause-ok c =
    let walker = c.walker.inside.0 in
    let entries = c.self.inside.mounts.entries in
    let none : mount_of_walker c.args.self.now c.args.walker ≡ None =
    none_where_not_some _ (ap is_some (sym c.mount_of_walker.ensures) ∙ sym c.is_some.ensures ∙ c.if-is_some.false) in
    let free : mount_of_walker (map use_of entries) walker ≡ None =
    ap (mount_of_walker (map use_of entries)) c.walker.view_is
    ∙ ap (λ (u : List Use). mount_of_walker u c.args.walker) c.self.view_is ∙ none in
    let made : c.insert_reserved.new.self.entries ≡ insert_entry nat_eq c.reserve.new.self.entries walker c.args.mount = c.insert_reserved.ensures.entries in
    rw (← c.walker.view_is)
    (ap (map use_of) (made ∙ ap (λ (es : List (ℕ × ℕ)). insert_entry nat_eq es walker c.args.mount) c.in_ok-reserve.ensures.entries)
    ∙ inserted_last walker c.args.mount entries free
    ∙ ap (entered walker c.args.mount) c.self.view_is)

pub returns-clause-map : goal.returns-clause-map
returns-clause-map c =
    let row : Use = record { walker = c.args.walker; mount = c.args.mount } in
    let none : mount_of_walker c.args.self.now c.args.walker ≡ None =
    none_where_not_some _ (ap is_some (sym c.mount_of_walker.ensures) ∙ sym c.is_some.ensures ∙ c.if-is_some.false) in
    subst (λ (rows : List Use). IsInToo c.args.walker c.args.mount c.args.self.now rows)
    (sym (returns-clause-ok c)) (enters c.args.self.now row none)

pub returns-clause-count : goal.returns-clause-count
returns-clause-count c =
    let row : Use = record { walker = c.args.walker; mount = c.args.mount } in
    subst (λ (rows : List Use). HasOneMore c.args.mount c.args.self.now rows)
    (sym (returns-clause-ok c)) (enters_count c.args.self.now row)

pub invariant_of-self-2 : goal.invariant_of-self-2
invariant_of-self-2 c =
    let row : Use = record { walker = c.args.walker; mount = c.args.mount } in
    let none : mount_of_walker c.args.self.now c.args.walker ≡ None =
    none_where_not_some _ (ap is_some (sym c.mount_of_walker.ensures) ∙ sym c.is_some.ensures ∙ c.if-is_some.false) in
    let single : IsSingle c.args.self.now = subst IsSingle c.self.view_is c.self.invariant.single in
    let agree : AreCounts c.self.inside.counts.entries c.args.self.now =
    subst (AreCounts c.self.inside.counts.entries) c.self.view_is c.self.invariant.counts in
    let up : CountsOneMore c.args.mount c.self.inside.counts.entries c.count_up.new.counts.entries =
    subst (λ (es : List (ℕ × ℕ)). CountsOneMore c.args.mount es c.count_up.new.counts.entries)
    c.in_ok-reserve-2.ensures.entries c.count_up.ensures in
    record {
      single = subst IsSingle (sym (returns-clause-ok c)) (enters_single c.args.self.now row single none);
      counts = subst (AreCounts c.count_up.new.counts.entries) (sym (returns-clause-ok c))
          (counts_entered c.args.walker c.args.mount c.args.self.now c.self.inside.counts.entries c.count_up.new.counts.entries agree up);
    }
