-- The law of receivers for each change, and that each keeps the invariant.
use Rattle.std.proofs.Common.{◌≡◌, ◌⊎◌, ℕ, Bool, true, false, cond, ◌||◌, List, Option, Some, None, refl, sym, ap, subst, inl, inr, ◌∙◌}
use Rattle.std.specs.Prelude.{map, option_map, is_some, not, ◌==◌}
use Rattle.am_names.proofs.Basics.{or_left}
use Rattle.am_names.specs.{MemberRow, GroupRow, RiseBy}
use Rattle.am_names.specs.PeerGroups.{PeerGroups}
use Rattle.am_group.specs.{member_row, group_row, group_in, slave_in, master_in, group_of, master_of_group, has_members, is_kept, settled, left, slave_from, slave_row, at_row, private_row, unbindable_row, with_row, made_slave, made_private, made_unbindable, with_only, without, RiseFrom, IsGroup, IsMaster, IsOrderly, IsPeopled, IsSound, AddsNoReceivers}
use Rattle.am_group.proofs.ReceiveLemmas.{home_where, home_of}
use Rattle.am_group.proofs.LookupLemmas.{find_map_same, find_filter, RiseFrom-map, RiseFrom-filter, members_from_test}
use Rattle.am_group.proofs.SettleLemmas.{leads_same, group_of-settled, master-settled-stays, settled_orderly, has_lifted}
use Rattle.am_group.proofs.LawLemmas.{BringsNoneUnder, law_from_under, none_under-settled}
use Rattle.am_group.proofs.ClearLemmas.{test_from_member, cleared_orderly, cleared_peopled, none_under-cleared}

-- rows leave groups, masters and homes, or stay: nothing is named that was not named by them
pub record Thins (old : PeerGroups) (new : PeerGroups) : Type 0 where
  pub rising : RiseFrom 0 new.members
  pub same_groups : new.groups ≡ old.groups
  pub same_last : new.last_group ≡ old.last_group
  pub groups_stay : (m g : ℕ) → group_of new m ≡ Some g → group_of old m ≡ Some g
  pub homes_stay : (m h : ℕ) → home_of new m ≡ Some h → home_of old m ≡ Some h
  pub masters_named : (m g : ℕ) → slave_in (member_row new.members m) ≡ Some g → (group_of old m ≡ Some g) ⊎ (slave_in (member_row old.members m) ≡ Some g)

same_masters : (old new : PeerGroups) → Thins old new → (h : ℕ) → master_of_group new h ≡ master_of_group old h
same_masters old new thin h = ap (λ (rows : List GroupRow). master_in (group_row rows h)) thin.same_groups

same_named : (old new : PeerGroups) → Thins old new → (g : ℕ) → is_some (group_row new.groups g) ≡ is_some (group_row old.groups g)
same_named old new thin g = ap (λ (rows : List GroupRow). is_some (group_row rows g)) thin.same_groups

pub thin_orderly : (old new : PeerGroups) → Thins old new → IsOrderly old → IsOrderly new
thin_orderly old new thin orderly = record {
  rising = thin.rising;
  groups_rising = subst (λ (rows : List GroupRow). RiseBy (λ (r : GroupRow). r.group) 0 rows) (sym thin.same_groups) orderly.groups_rising;
  group_named = λ m g e. same_named old new thin g ∙ orderly.group_named m g (thin.groups_stay m g e);
  master_named = named;
  down = λ h g e. orderly.down h g (sym (same_masters old new thin h) ∙ e);
  fresh = λ g e. rw (thin.same_last) (orderly.fresh g (sym (same_named old new thin g) ∙ e));
}
  where
    one : (m g : ℕ) → (group_of old m ≡ Some g) ⊎ (slave_in (member_row old.members m) ≡ Some g) → IsGroup new g
    one m g (inl e) = same_named old new thin g ∙ orderly.group_named m g e
    one m g (inr e) = same_named old new thin g ∙ orderly.master_named g (inl (m, e))

    named : (g : ℕ) → IsMaster new g → IsGroup new g
    named g (inl (m, e)) = one m g (thin.masters_named m g e)
    named g (inr (h, e)) = same_named old new thin g ∙ orderly.master_named g (inr (h, sym (same_masters old new thin h) ∙ e))

thin_under : (old new : PeerGroups) → Thins old new → BringsNoneUnder old new
thin_under old new thin b c g stands_b stands_c other in_g under = (
  thin.groups_stay b g in_g,
  record {
    home = under.home;
    is_home = thin.homes_stay c under.home under.is_home;
    way = under.way;
    leads = leads_same old new (λ h n e. sym (same_masters old new thin h) ∙ e) under.way under.home g under.leads;
  },
)

-- the law and the invariant, for a change that is a thinning, after which emptied groups go
pub record KeepsLaw (old : PeerGroups) (new : PeerGroups) : Type 0 where
  pub sound : IsSound new
  pub law : AddsNoReceivers old new

-- what has members stays
pub live_stays : (old new : PeerGroups) (g : ℕ) → has_members new.members g ≡ true → is_kept old.members new.members g ≡ true
live_stays old new g has = or_left (has_members new.members g) (not (has_members old.members g)) has

pub left_orderly : (old raw : PeerGroups) → IsOrderly raw → IsOrderly (left old raw)
left_orderly old raw orderly =
    let stays = is_kept old.members raw.members in
    cleared_orderly stays (settled stays raw) (settled_orderly stays raw orderly)
    (λ g has. live_stays old raw g (sym (has_lifted stays raw raw.members g) ∙ has))
    (λ g is_master. (master-settled-stays stays raw g is_master).1)

-- what stays and had members has members
stayed_has : (old new : PeerGroups) (g : ℕ) → is_kept old.members new.members g ≡ true → has_members old.members g ≡ true → has_members new.members g ≡ true
stayed_has old new g stays had = go (has_members new.members g) (rw had at stays)
  where
    go : (b : Bool) → (b || not true) ≡ true → b ≡ true
    go true e = refl
    go false e = absurd cc

-- what a thinning names as a master had members, where every master had
thin_had : (old new : PeerGroups) → Thins old new → IsPeopled old → (g : ℕ) → IsMaster new g → has_members old.members g ≡ true
thin_had old new thin peopled g (inl (m, e)) = go (thin.masters_named m g e)
  where
    go : (group_of old m ≡ Some g) ⊎ (slave_in (member_row old.members m) ≡ Some g) → has_members old.members g ≡ true
    go (inl in_g) = test_from_member old.members m g in_g
    go (inr up) = let member = peopled g (inl (m, up)) in test_from_member old.members member.0 g member.1
thin_had old new thin peopled g (inr (h, e)) =
    let member = peopled g (inr (h, sym (same_masters old new thin h) ∙ e)) in
    test_from_member old.members member.0 g member.1

pub thin_peopled : (old new : PeerGroups) → Thins old new → IsPeopled old → IsPeopled (left old new)
thin_peopled old new thin peopled =
    let stays = is_kept old.members new.members in
    cleared_peopled stays (settled stays new) (λ g is_master.
    let was = master-settled-stays stays new g is_master in
    let has : has_members new.members g ≡ true = stayed_has old new g was.1 (thin_had old new thin peopled g was.0) in
    let member = members_from_test new g thin.rising has in
    (member.0, group_of-settled stays new member.0 ∙ member.1))

pub thin_law : (old new : PeerGroups) → Thins old new → IsPeopled old → AddsNoReceivers old (left old new)
thin_law old new thin peopled =
    let stays = is_kept old.members new.members in
    law_from_under old (left old new) peopled
    (none_under-cleared stays (settled stays new) old
    (none_under-settled stays old new (thin_under old new thin)))

pub thinned :
    (old new : PeerGroups) → Thins old new → IsSound old → KeepsLaw old (left old new)
thinned old new thin sound = record {
  sound = record {
    orderly = left_orderly old new (thin_orderly old new thin sound.orderly);
    peopled = thin_peopled old new thin sound.peopled;
  };
  law = thin_law old new thin sound.peopled;
}

-- one row changes to what names nothing new
pub record RowThins (change : MemberRow → MemberRow) : Type 0 where
  pub same_mount : (r : MemberRow) → (change r).mount ≡ r.mount
  pub group_stays : (r : MemberRow) (g : ℕ) → (change r).group ≡ Some g → r.group ≡ Some g
  pub home_stays : (r : MemberRow) (h : ℕ) → home_where (change r).group (change r).master ≡ Some h → home_where r.group r.master ≡ Some h
  pub master_named : (r : MemberRow) (g : ℕ) → (change r).master ≡ Some g → (r.group ≡ Some g) ⊎ (r.master ≡ Some g)

holds_in_either_case : (P : MemberRow → Type 0) (b : Bool) (x y : MemberRow) → P x → P y → P (cond b x y)
holds_in_either_case P true x y p q = p
holds_in_either_case P false x y p q = q

-- so it is where only the row of m changes
at_row_thins : (change : MemberRow → MemberRow) (m : ℕ) → RowThins change → RowThins (at_row change m)
at_row_thins change m thin = record {
  same_mount = λ r. holds_in_either_case (λ x. x.mount ≡ r.mount) (r.mount == m) (change r) r (thin.same_mount r) refl;
  group_stays = λ r g. holds_in_either_case (λ x. x.group ≡ Some g → r.group ≡ Some g) (r.mount == m) (change r) r (thin.group_stays r g) (λ e. e);
  home_stays = λ r h. holds_in_either_case (λ x. home_where x.group x.master ≡ Some h → home_where r.group r.master ≡ Some h) (r.mount == m) (change r) r (thin.home_stays r h) (λ e. e);
  master_named = λ r g. holds_in_either_case (λ x. x.master ≡ Some g → (r.group ≡ Some g) ⊎ (r.master ≡ Some g)) (r.mount == m) (change r) r (thin.master_named r g) (λ e. inr e);
}

pub slave_row_thins : RowThins slave_row
slave_row_thins = record {
  same_mount = λ r. mount r r.group;
  group_stays = λ r g. group r r.group g;
  home_stays = λ r h. home r r.group h refl;
  master_named = λ r g. master r r.group g refl;
}
  where
    mount : (r : MemberRow) (o : Option ℕ) → (slave_from o r).mount ≡ r.mount
    mount r (Some x) = refl
    mount r None = refl

    group : (r : MemberRow) (o : Option ℕ) (g : ℕ) → (slave_from o r).group ≡ Some g → r.group ≡ Some g
    group r (Some x) g e = absurd cc
    group r None g e = e

    home : (r : MemberRow) (o : Option ℕ) (h : ℕ) → r.group ≡ o → home_where (slave_from o r).group (slave_from o r).master ≡ Some h → home_where r.group r.master ≡ Some h
    home r (Some x) h in_group e = rw in_group e
    home r None h in_group e = e

    master : (r : MemberRow) (o : Option ℕ) (g : ℕ) → r.group ≡ o → (slave_from o r).master ≡ Some g → (r.group ≡ Some g) ⊎ (r.master ≡ Some g)
    master r (Some x) g in_group e = inl (in_group ∙ e)
    master r None g in_group e = inr e

pub bare_thins : (flag : Bool) → RowThins (λ r. record r { group = None; master = None; unbindable = flag })
bare_thins flag = record {
  same_mount = λ r. refl;
  group_stays = λ r g e. absurd cc;
  home_stays = λ r h e. absurd cc;
  master_named = λ r g e. absurd cc;
}

pub member_row-map : (f : MemberRow → MemberRow) → ((r : MemberRow) → (f r).mount ≡ r.mount) → (rows : List MemberRow) (m : ℕ) → member_row (map f rows) m ≡ option_map f (member_row rows m)
member_row-map f same rows m = find_map_same (λ (r : MemberRow). r.mount) m f same rows

pub row_thins : (s : PeerGroups) (change : MemberRow → MemberRow) (m : ℕ) → IsOrderly s → RowThins change → Thins s (with_row change m s)
row_thins s change m orderly thin_row = record {
  rising = RiseFrom-map f thin.same_mount 0 s.members orderly.rising;
  same_groups = refl;
  same_last = refl;
  groups_stay = λ c g e. group g (member_row s.members c) (rw (member_row-map f thin.same_mount s.members c) at e);
  homes_stay = λ c h e. home h (member_row s.members c) (rw (member_row-map f thin.same_mount s.members c) at e);
  masters_named = λ c g e. master g (member_row s.members c) (rw (member_row-map f thin.same_mount s.members c) at e);
}
  where
    f : MemberRow → MemberRow
    f = at_row change m

    thin : RowThins (at_row change m)
    thin = at_row_thins change m thin_row

    group : (g : ℕ) (o : Option MemberRow) → group_in (option_map (at_row change m) o) ≡ Some g → group_in o ≡ Some g
    group g None e = e
    group g (Some r) e = thin.group_stays r g e

    home : (h : ℕ) (o : Option MemberRow) → home_where (group_in (option_map (at_row change m) o)) (slave_in (option_map (at_row change m) o)) ≡ Some h → home_where (group_in o) (slave_in o) ≡ Some h
    home h None e = e
    home h (Some r) e = thin.home_stays r h e

    master : (g : ℕ) (o : Option MemberRow) → slave_in (option_map (at_row change m) o) ≡ Some g → (group_in o ≡ Some g) ⊎ (slave_in o ≡ Some g)
    master g None e = inr e
    master g (Some r) e = thin.master_named r g e

-- the three changes that give up a peer group, and a removal
pub made_slave_keeps : (m : ℕ) (s : PeerGroups) → IsSound s → KeepsLaw s (made_slave m s)
made_slave_keeps m s sound = thinned s (with_row slave_row m s) (row_thins s slave_row m sound.orderly slave_row_thins) sound

pub made_private_keeps : (m : ℕ) (s : PeerGroups) → IsSound s → KeepsLaw s (made_private m s)
made_private_keeps m s sound = thinned s (with_row private_row m s) (row_thins s private_row m sound.orderly (bare_thins false)) sound

pub made_unbindable_keeps : (m : ℕ) (s : PeerGroups) → IsSound s → KeepsLaw s (made_unbindable m s)
made_unbindable_keeps m s sound = thinned s (with_row unbindable_row m s) (row_thins s unbindable_row m sound.orderly (bare_thins true)) sound

only_thins : (s : PeerGroups) (keeps : ℕ → Bool) → IsOrderly s → Thins s (with_only keeps s)
only_thins s keeps orderly = record {
  rising = RiseFrom-filter (λ r. keeps r.mount) 0 s.members orderly.rising;
  same_groups = refl;
  same_last = refl;
  groups_stay = λ c g e. group g (keeps c) (member_row s.members c) (rw (found c) at e);
  homes_stay = λ c h e. home h (keeps c) (member_row s.members c) (rw (found c) at e);
  masters_named = λ c g e. inr (master g (keeps c) (member_row s.members c) (rw (found c) at e));
}
  where
    found : (c : ℕ) → member_row (with_only keeps s).members c ≡ cond (keeps c) (member_row s.members c) None
    found c = find_filter (λ (r : MemberRow). r.mount) c keeps s.members

    group : (g : ℕ) (b : Bool) (o : Option MemberRow) → group_in (cond b o None) ≡ Some g → group_in o ≡ Some g
    group g true o e = e
    group g false o e = absurd cc

    home : (h : ℕ) (b : Bool) (o : Option MemberRow) → home_where (group_in (cond b o None)) (slave_in (cond b o None)) ≡ Some h → home_where (group_in o) (slave_in o) ≡ Some h
    home h true o e = e
    home h false o e = absurd cc

    master : (g : ℕ) (b : Bool) (o : Option MemberRow) → slave_in (cond b o None) ≡ Some g → slave_in o ≡ Some g
    master g true o e = e
    master g false o e = absurd cc

pub only_orderly : (gone : ℕ → Bool) (s : PeerGroups) → IsOrderly s → IsOrderly (with_only (λ m. not (gone m)) s)
only_orderly gone s orderly = thin_orderly s (with_only (λ m. not (gone m)) s) (only_thins s (λ m. not (gone m)) orderly) orderly

pub without_orderly : (gone : ℕ → Bool) (s : PeerGroups) → IsOrderly s → IsOrderly (without gone s)
without_orderly gone s orderly = left_orderly s (with_only (λ m. not (gone m)) s) (only_orderly gone s orderly)

pub without_keeps : (gone : ℕ → Bool) (s : PeerGroups) → IsSound s → KeepsLaw s (without gone s)
without_keeps gone s sound = thinned s (with_only (λ m. not (gone m)) s) (only_thins s (λ m. not (gone m)) sound.orderly) sound

pub at_row_mount : (change : MemberRow → MemberRow) (m : ℕ) → ((r : MemberRow) → (change r).mount ≡ r.mount) → (r : MemberRow) → (at_row change m r).mount ≡ r.mount
at_row_mount change m same r = holds_in_either_case (λ x. x.mount ≡ r.mount) (r.mount == m) (change r) r (same r) refl
