use Rattle.std.proofs.Common.{◌≡◌, ◌<◌, ◌+◌, ◌∷◌, [], ℕ, List, Option, Some, length, take, arith, rules, refl, sym, ap, subst, ◌∙◌}
use Rattle.std.specs.Prelude.{filter_map, option_map}
use Rattle.std.specs.Option.{option_to_list}
use Rattle.std.proofs.lemmas.List.{length_push}
use Rattle.am_names.proofs.Basics.{some_injective}
use Rattle.am_names.specs.{MemberRow}
use Rattle.am_names.specs.PeerGroups.{PeerGroups}
use Rattle.am_group.specs.{IsOrderly, all_added, member_row}
use Rattle.am_group.proofs.NewestLemmas.{member_still}
use Rattle.am_propagate.specs.{copy_number, member_in}
use Rattle.am_propagate.specs.Copying.{member_as}
use Rattle.am_propagate.proofs.JoinedCopyLemmas.{one_more_joined, some_orderly}
use Rattle.am_propagate.proofs.LoopLemmas.{gives_more}
use Rattle.am_propagate.proofs.NamespaceLemmas.{member_numbered}
use Rattle.am_propagate.proofs.SearchLemmas.{counted_at}
use Rattle.am_propagate.proofs.subtree.namespace.add_members_in.Goals as goal

pub add_member_in-requires : goal.add_member_in-requires
add_member_in-requires c = λ row found.
    let s = c.args.groups.now in
    let mounts = c.args.mounts.now in
    let form = c.args.form in
    let i = c.loop-at.at in
    let m = c.index-mounts-at.result in
    let n = c.args.last + i + 1 in
    let f : MemberRow → MemberRow = member_in form (copy_number c.args.last mounts) in
    let h : ℕ → Option MemberRow = λ x. option_map f (member_row s.members x) in
    let within : i < length mounts = search rules in
    let here = c.requires.joined m (i, within, sym c.index-mounts-at.is) in
    let now : member_row c.loop-at.groups.members m ≡ Some here.0 =
    ap (λ (x : PeerGroups). member_row x.members m) c.loop-at.invariant.groups ∙
    member_still s.members (filter_map h (take i mounts)) m here.0 here.1 in
    let same : row ≡ here.0 = some_injective (sym found ∙ now) in
    let number : n ≡ copy_number c.args.last mounts m =
    counted_at c.args.last mounts c.requires.rising i m (c.args.last + i) within c.index-mounts-at.is refl in
    let copied : member_as form n here.0 ≡ f here.0 =
    member_numbered form (copy_number c.args.last mounts) s.members m n here.0 here.1 number in
    let all : all_added (member_as form n row ∷ []) [] c.loop-at.groups ≡ all_added (filter_map h (take (i + 1) mounts)) [] s =
    ap (λ (r : MemberRow). all_added (member_as form n r ∷ []) [] c.loop-at.groups) same ∙
    ap (λ (r : MemberRow). all_added (r ∷ []) [] c.loop-at.groups) copied ∙
    ap (λ (x : PeerGroups). all_added (f here.0 ∷ []) [] x) c.loop-at.invariant.groups ∙
    one_more_joined s h mounts i m within c.index-mounts-at.is (f here.0) (ap (option_map f) here.1) in
    subst (λ (x : PeerGroups). IsOrderly x) (sym all) (some_orderly s h mounts (i + 1) c.requires.orderly)

pub loop-at-preserved : goal.loop-at-preserved
loop-at-preserved c =
    let s = c.args.groups.now in
    let mounts = c.args.mounts.now in
    let form = c.args.form in
    let i = c.loop-at.at in
    let m = c.index-mounts-at.result in
    let n = c.args.last + i + 1 in
    let f : MemberRow → MemberRow = member_in form (copy_number c.args.last mounts) in
    let h : ℕ → Option MemberRow = λ x. option_map f (member_row s.members x) in
    let within : i < length mounts = search rules in
    let here = c.requires.joined m (i, within, sym c.index-mounts-at.is) in
    let now : member_row c.loop-at.groups.members m ≡ Some here.0 =
    ap (λ (x : PeerGroups). member_row x.members m) c.loop-at.invariant.groups ∙
    member_still s.members (filter_map h (take i mounts)) m here.0 here.1 in
    let number : n ≡ copy_number c.args.last mounts m =
    counted_at c.args.last mounts c.requires.rising i m (c.args.last + i) within c.index-mounts-at.is refl in
    let copied : member_as form n here.0 ≡ f here.0 =
    member_numbered form (copy_number c.args.last mounts) s.members m n here.0 here.1 number in
    let before : length (filter_map h (take i mounts)) ≡ i = c.loop-at.invariant.count in
    record {
      groups = c.in_default.ensures.ok ∙
          ap (λ (o : Option MemberRow). all_added (option_to_list (option_map (member_as form n) o)) [] c.loop-at.groups) now ∙
          ap (λ (r : MemberRow). all_added (r ∷ []) [] c.loop-at.groups) copied ∙
          ap (λ (x : PeerGroups). all_added (f here.0 ∷ []) [] x) c.loop-at.invariant.groups ∙
          one_more_joined s h mounts i m within c.index-mounts-at.is (f here.0) (ap (option_map f) here.1);
      count = ap (λ (xs : List MemberRow). length xs) (gives_more h mounts i m within c.index-mounts-at.is (f here.0) (ap (option_map f) here.1)) ∙
          length_push (filter_map h (take i mounts)) (f here.0) ∙ omega (arith, before);
    }
