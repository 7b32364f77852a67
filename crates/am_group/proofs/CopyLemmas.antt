-- The copies of a mount on a shared mount keep the invariant.
use Rattle.std.proofs.Common.{◌≡◌, ◌≢◌, ◌≤◌, ◌<◌, ◌+◌, ◌⊎◌, ◌↔◌, ℕ, Bool, true, false, cond, eqb, ◌||◌, ◌&&◌, List, [], ◌∷◌, ◌++◌, length, Option, Some, None, refl, sym, ap, subst, inl, inr, ⊎_elim, ◌∙◌, arith}
use Rattle.std.specs.Prelude.{filter, map, not, nat_lt, is_some, option_map, ◌==◌}
use Rattle.std.specs.Option.{option_or}
use Rattle.std.proofs.lemmas.List.Folds.{list_any-append}
use Rattle.std.proofs.lemmas.Bool.{eqb-true, eq-eqb, ne_eqb, cases_eq, and_parts, and_from, or_cases, ltb-true, ltb-false}
use Rattle.am_names.proofs.Basics.{or_left, or_right, some_injective}
use Rattle.am_names.specs.{MemberRow, GroupRow, RiseBy}
use Rattle.am_names.specs.PeerGroups.{PeerGroups}
use Rattle.am_group.specs.{member_row, group_row, slave_in, group_of, master_of_group, Receives, is_just, has_members, added, has_receiver, receiving_groups, rank, stand_in, copy_row, copies_from, group_copies, copied, RiseFrom, IsGroup, IsMaster, HasMembers, IsSound}
use Rattle.am_group.proofs.ReceiveLemmas.{LeadsUp, IsUnder, under_from_way, reached_from_under}
use Rattle.am_group.proofs.LookupLemmas.{found_passes, members_from_test, RiseBy-filter, groups_follow}
use Rattle.am_group.proofs.ChangeLemmas.{KeepsLaw}
use Rattle.am_group.proofs.ScanLemmas.{has, any_has, has_any, has-filter, has-from_filter, just_same, just_self}
use Rattle.am_group.proofs.AddLemmas.{NamesWell, added_keeps, old_is_group, groups_or}

-- rank: below a higher number there is more, and less than all
rank_at_most : (a b : ℕ) → a ≤ b → (xs : List ℕ) → rank a xs ≤ rank b xs
rank_at_most a b le [] = omega arith
rank_at_most a b le (x ∷ xs) = go (nat_lt x a) (nat_lt x b) refl refl (rank_at_most a b le xs)
  where
    go : (p q : Bool) → nat_lt x a ≡ p → nat_lt x b ≡ q → rank a xs ≤ rank b xs → length (cond p (x ∷ filter (λ y. nat_lt y a) xs) (filter (λ y. nat_lt y a) xs)) ≤ length (cond q (x ∷ filter (λ y. nat_lt y b) xs) (filter (λ y. nat_lt y b) xs))
    go true true e f ih = omega arith
    go true false e f ih = let low : x < a = ltb-true x a e in let high : b ≤ x = ltb-false x b f in absurd (omega arith)
    go false true e f ih = omega arith
    go false false e f ih = ih

pub rank_less : (a b : ℕ) → a < b → (xs : List ℕ) → has a xs ≡ true → rank a xs < rank b xs
rank_less a b lt [] h = absurd cc
rank_less a b lt (x ∷ xs) h = go (nat_lt x a) (nat_lt x b) refl refl (eqb a x) refl h (rank_at_most a b (omega arith) xs) (rank_less a b lt xs)
  where
    go : (p q : Bool) → nat_lt x a ≡ p → nat_lt x b ≡ q → (t : Bool) → eqb a x ≡ t → (t || has a xs) ≡ true → rank a xs ≤ rank b xs → (has a xs ≡ true → rank a xs < rank b xs) → length (cond p (x ∷ filter (λ y. nat_lt y a) xs) (filter (λ y. nat_lt y a) xs)) < length (cond q (x ∷ filter (λ y. nat_lt y b) xs) (filter (λ y. nat_lt y b) xs))
    go true false e f t g h most ih = let low : x < a = ltb-true x a e in let high : b ≤ x = ltb-false x b f in absurd (omega arith)
    go true true e f true g h most ih = let same : a ≡ x = eqb-true a x g in let low : x < a = ltb-true x a e in absurd (omega arith)
    go true true e f false g h most ih = let rest : rank a xs < rank b xs = ih h in omega arith
    go false true e f t g h most ih = omega arith
    go false false e f true g h most ih = let same : a ≡ x = eqb-true a x g in let high : b ≤ x = ltb-false x b f in absurd (omega arith)
    go false false e f false g h most ih = ih h

rank_within : (a : ℕ) (xs : List ℕ) → rank a xs ≤ length xs
rank_within a [] = omega arith
rank_within a (x ∷ xs) = go (nat_lt x a) (rank_within a xs)
  where
    go : (p : Bool) → rank a xs ≤ length xs → length (cond p (x ∷ filter (λ y. nat_lt y a) xs) (filter (λ y. nat_lt y a) xs)) ≤ length (x ∷ xs)
    go true ih = omega arith
    go false ih = omega arith

pub rank_bound : (a : ℕ) (xs : List ℕ) → has a xs ≡ true → rank a xs < length xs
rank_bound a [] h = absurd cc
rank_bound a (x ∷ xs) h = go (nat_lt x a) refl (eqb a x) refl h (rank_within a xs) (rank_bound a xs)
  where
    go : (p : Bool) → nat_lt x a ≡ p → (t : Bool) → eqb a x ≡ t → (t || has a xs) ≡ true → rank a xs ≤ length xs → (has a xs ≡ true → rank a xs < length xs) → length (cond p (x ∷ filter (λ y. nat_lt y a) xs) (filter (λ y. nat_lt y a) xs)) < length (x ∷ xs)
    go true e true g h most ih = let same : a ≡ x = eqb-true a x g in let low : x < a = ltb-true x a e in absurd (omega arith)
    go true e false g h most ih = let rest : rank a xs < length xs = ih h in omega arith
    go false e t g h most ih = omega arith

-- rows that follow rise too
pub members_follow : (low c : ℕ) (xs ys : List MemberRow) → RiseFrom low xs → low ≤ c → ((m : ℕ) → is_some (member_row xs m) ≡ true → m < c) → RiseFrom c ys → RiseFrom low (xs ++ ys)
members_follow low c [] [] rises le below more = tt
members_follow low c [] (y ∷ ys) rises le below more = let first : c ≤ y.mount = more.0 in (omega arith, more.1)
members_follow low c (x ∷ xs) ys rises le below more =
    let here : x.mount < c = below x.mount (rw (eq-eqb x.mount x.mount refl) refl) in
    (rises.0, members_follow (x.mount + 1) c xs ys rises.1 (omega arith) (λ m e. below m (later m (x.mount == m) e)) more)
  where
    later : (m : ℕ) (b : Bool) → is_some (member_row xs m) ≡ true → is_some (cond b (Some x) (member_row xs m)) ≡ true
    later m true e = refl
    later m false e = e

pub copy_mount : (stand : ℕ → ℕ) (number : ℕ) (group master : Option ℕ) → (copy_row stand number group master).mount ≡ number
copy_mount stand number (Some g) master = refl
copy_mount stand number None master = refl

copies_rise : (stand : ℕ → ℕ) (s : PeerGroups) (low number : ℕ) → low ≤ number → (receivers : List ℕ) → RiseFrom low (copies_from stand s number receivers)
copies_rise stand s low number le [] = tt
copies_rise stand s low number le (r ∷ receivers) = (rw (copy_mount stand number (group_of s r) (slave_in (member_row s.members r))) le, rw (copy_mount stand number (group_of s r) (slave_in (member_row s.members r))) (copies_rise stand s (number + 1) (number + 1) (omega arith) receivers))

-- a copy that is found is that on a receiver
copy_found : (stand : ℕ → ℕ) (s : PeerGroups) (number : ℕ) (receivers : List ℕ) (m : ℕ) (row : MemberRow) → member_row (copies_from stand s number receivers) m ≡ Some row → (r : ℕ) × (has r receivers ≡ true) × (n : ℕ) × (row ≡ copy_row stand n (group_of s r) (slave_in (member_row s.members r)))
copy_found stand s number [] m row e = absurd cc
copy_found stand s number (r ∷ receivers) m row e = go (copy_row stand number (group_of s r) (slave_in (member_row s.members r))) refl ((copy_row stand number (group_of s r) (slave_in (member_row s.members r))).mount == m) e (copy_found stand s (number + 1) receivers m row)
  where
    go : (first : MemberRow) → first ≡ copy_row stand number (group_of s r) (slave_in (member_row s.members r)) → (b : Bool) → cond b (Some first) (member_row (copies_from stand s (number + 1) receivers) m) ≡ Some row → (member_row (copies_from stand s (number + 1) receivers) m ≡ Some row → (x : ℕ) × (has x receivers ≡ true) × (n : ℕ) × (row ≡ copy_row stand n (group_of s x) (slave_in (member_row s.members x)))) → (x : ℕ) × (has x (r ∷ receivers) ≡ true) × (n : ℕ) × (row ≡ copy_row stand n (group_of s x) (slave_in (member_row s.members x)))
    go first is true e ih = let same : row ≡ first = cc in (r, or_left (eqb r r) (has r receivers) (eq-eqb r r refl), number, same ∙ is)
    go first is false e ih = let rest = ih e in (rest.0, or_right (eqb rest.0 r) (has rest.0 receivers) rest.1, rest.2, rest.3)

-- the copy on a member of a group is in the group that stands for it
copy_member : (stand : ℕ → ℕ) (s : PeerGroups) (number : ℕ) (receivers : List ℕ) (r g : ℕ) → has r receivers ≡ true → group_of s r ≡ Some g → has_members (copies_from stand s number receivers) (stand g) ≡ true
copy_member stand s number [] r g h e = absurd cc
copy_member stand s number (x ∷ receivers) r g h e = go (eqb r x) refl h (copy_member stand s (number + 1) receivers r g)
  where
    go : (b : Bool) → eqb r x ≡ b → (b || has r receivers) ≡ true → (has r receivers ≡ true → group_of s r ≡ Some g → has_members (copies_from stand s (number + 1) receivers) (stand g) ≡ true) → has_members (copies_from stand s number (x ∷ receivers)) (stand g) ≡ true
    go true f h ih =
        let same : group_of s x ≡ Some g = subst (λ (y : ℕ). group_of s y ≡ Some g) (eqb-true r x f) e in
        or_left _ (has_members (copies_from stand s (number + 1) receivers) (stand g)) (rw same (just_self (stand g) (Some (stand g)) refl))
    go false f h ih = or_right _ (has_members (copies_from stand s (number + 1) receivers) (stand g)) (ih h e)

-- a mapped row that is found
mapped_found : (f : ℕ → GroupRow) (xs : List ℕ) (h : ℕ) (row : GroupRow) → group_row (map f xs) h ≡ Some row → (x : ℕ) × (has x xs ≡ true) × (row ≡ f x)
mapped_found f [] h row e = absurd cc
mapped_found f (x ∷ xs) h row e = go ((f x).group == h) e (mapped_found f xs h row)
  where
    go : (b : Bool) → cond b (Some (f x)) (group_row (map f xs) h) ≡ Some row → (group_row (map f xs) h ≡ Some row → (y : ℕ) × (has y xs ≡ true) × (row ≡ f y)) → (y : ℕ) × (has y (x ∷ xs) ≡ true) × (row ≡ f y)
    go true e ih = (x, or_left (eqb x x) (has x xs) (eq-eqb x x refl), cc)
    go false e ih = let rest = ih e in (rest.0, or_right (eqb rest.0 x) (has rest.0 xs) rest.1, rest.2)

mapped_there : (f : ℕ → GroupRow) (xs : List ℕ) (x h : ℕ) → has x xs ≡ true → (f x).group ≡ h → is_some (group_row (map f xs) h) ≡ true
mapped_there f [] x h e g = absurd cc
mapped_there f (y ∷ xs) x h e g = go (eqb x y) refl e (mapped_there f xs x h)
  where
    some_or : (b : Bool) → is_some (group_row (map f xs) h) ≡ true → is_some (cond b (Some (f y)) (group_row (map f xs) h)) ≡ true
    some_or true k = refl
    some_or false k = k

    go : (b : Bool) → eqb x y ≡ b → (b || has x xs) ≡ true → (has x xs ≡ true → (f x).group ≡ h → is_some (group_row (map f xs) h) ≡ true) → is_some (group_row (map f (y ∷ xs)) h) ≡ true
    go true k e ih = let at : (f y).group ≡ h = subst (λ (z : ℕ). (f z).group ≡ h) (eqb-true x y k) g in rw (eq-eqb (f y).group h at) refl
    go false k e ih = some_or ((f y).group == h) (ih e g)

mapped_some : (stand : ℕ → ℕ) (o : Option ℕ) (g : ℕ) → option_map stand o ≡ Some g → (k : ℕ) × (o ≡ Some k) × (g ≡ stand k)
mapped_some stand None g e = absurd cc
mapped_some stand (Some k) g e = (k, refl, sym (some_injective e))

-- what a copy's row names
copy_group : (stand : ℕ → ℕ) (n : ℕ) (group master : Option ℕ) (g : ℕ) → (copy_row stand n group master).group ≡ Some g → (k : ℕ) × (group ≡ Some k) × (g ≡ stand k)
copy_group stand n (Some k) master g e = (k, refl, sym (some_injective e))
copy_group stand n None master g e = absurd cc

copy_master : (stand : ℕ → ℕ) (n : ℕ) (group master : Option ℕ) (g : ℕ) → (copy_row stand n group master).master ≡ Some g → (group ≡ None) × (k : ℕ) × (master ≡ Some k) × (g ≡ stand k)
copy_master stand n (Some x) master g e = absurd cc
copy_master stand n None master g e = let k = mapped_some stand master g e in (refl, k.0, k.1, k.2)

group_number : (rows : List GroupRow) (g : ℕ) → is_some (group_row rows g) ≡ true → has g (map (λ r. r.group) rows) ≡ true
group_number [] g e = absurd cc
group_number (r ∷ rows) g e = go (r.group == g) refl e (group_number rows g)
  where
    go : (b : Bool) → (r.group == g) ≡ b → is_some (cond b (Some r) (group_row rows g)) ≡ true → (is_some (group_row rows g) ≡ true → has g (map (λ r. r.group) rows) ≡ true) → (eqb g r.group || has g (map (λ r. r.group) rows)) ≡ true
    go true f e ih = or_left (eqb g r.group) _ (eq-eqb g r.group (sym (eqb-true r.group g f)))
    go false f e ih = or_right (eqb g r.group) _ (ih e)

some_or : (o p : Option GroupRow) → is_some p ≡ true → is_some (option_or o p) ≡ true
some_or None p e = e
some_or (Some r) p e = refl

-- numbers that rise are not below the first
all_above :
    (low : ℕ) (gs : List ℕ) → RiseBy (λ (g : ℕ). g) low gs → (h : ℕ) → has h gs ≡ true → low ≤ h
all_above low [] rises h e = absurd cc
all_above low (g ∷ gs) rises h e = ⊎_elim
    (λ same. let at : h ≡ g = eqb-true h g same in let first : low ≤ g = rises.0 in omega arith)
    (λ later.
    let first : low ≤ g = rises.0 in
    let rest : g + 1 ≤ h = all_above (g + 1) gs rises.1 h later in
    omega arith)
    (or_cases (eqb h g) (has h gs) e)

numbers_rise :
    (low : ℕ) (rows : List GroupRow) → RiseBy (λ (r : GroupRow). r.group) low rows →
    RiseBy (λ (g : ℕ). g) low (map (λ (r : GroupRow). r.group) rows)
numbers_rise low [] rises = tt
numbers_rise low (r ∷ rows) rises = (rises.0, numbers_rise (r.group + 1) rows rises.1)

module _ (s : PeerGroups) (sound : IsSound s) (b own : ℕ) (in_own : group_of s b ≡ Some own) (receivers : List ℕ) (exact : (r : ℕ) → (has r receivers ≡ true) ↔ Receives s b r) (new number : ℕ) (new_there : IsGroup s new) (above : (m : ℕ) → is_some (member_row s.members m) ≡ true → m < number) where
  abbrev groups : List ℕ
  groups = receiving_groups s receivers own

  abbrev stand : ℕ → ℕ
  stand = stand_in own new s.last_group (receiving_groups s receivers own)

  -- the new mount stands for the group, or a fresh one does
  abbrev pub Stands : ℕ → Type 0
  Stands k = (k ≡ own) ⊎ (has k (receiving_groups s receivers own) ≡ true)

  -- a group that a receiver is in
  pub stands_of_receiver : (r k : ℕ) → has r receivers ≡ true → group_of s r ≡ Some k → Stands k
  stands_of_receiver r k h e = ⊎_elim
      (λ same. inl same)
      (λ other. inr (has-filter (λ g. not (g == own) && has_receiver s receivers g) (map (λ row. row.group) s.groups) k
      (group_number s.groups k (sound.orderly.group_named r k e))
      (and_from (not (k == own)) (has_receiver s receivers k) (rw (ne_eqb k own other) refl) (has_any (λ x. is_just k (group_of s x)) receivers r h (just_self k (group_of s r) e)))))
      (cases_eq k own)

  -- a master under the place's group
  stands_of_master : (k : ℕ) (way : List ℕ) → IsMaster s k → LeadsUp s way k own → Stands k
  stands_of_master k way is_master leads = ⊎_elim
      (λ same. inl same)
      (λ other.
      let member = sound.peopled k is_master in
      let under : IsUnder s member.0 own = record { home = k; is_home = rw (member.1) refl; way = way; leads = leads } in
      let reached = reached_from_under s sound.peopled b member.0 own in_own under in
      let apart : member.0 ≢ b = λ same. other (some_injective (sym member.1 ∙ ap (λ (x : ℕ). group_of s x) same ∙ in_own)) in
      stands_of_receiver member.0 k ((exact member.0).1 (record { is_other = apart; way = reached.0; arrives = reached.1 })) member.1)
      (cases_eq k own)

  -- a receiver is under the place's group
  receiver_under : (r : ℕ) → has r receivers ≡ true → IsUnder s r own
  receiver_under r h =
      let receives = (exact r).0 h in
      let found = under_from_way s receives.way b r receives.arrives in
      subst (λ (g : ℕ). IsUnder s r g) (some_injective (sym found.1 ∙ in_own)) found.2

  -- the master of a receiver that is only a slave
  pub stands_of_slave : (r k : ℕ) → has r receivers ≡ true → group_of s r ≡ None → slave_in (member_row s.members r) ≡ Some k → Stands k
  stands_of_slave r k h none e =
      let under = receiver_under r h in
      let home : under.home ≡ k = some_injective (sym (rw none at under.is_home) ∙ e) in
      stands_of_master k under.way (inl (r, e)) (subst (λ (x : ℕ). LeadsUp s under.way x own) home under.leads)

  -- the master of a group that receivers are in
  pub stands_above : (h m : ℕ) → has h (receiving_groups s receivers own) ≡ true → master_of_group s h ≡ Some m → Stands m
  stands_above h m e up =
      let tests = has-from_filter (λ g. not (g == own) && has_receiver s receivers g) (map (λ row. row.group) s.groups) h e in
      let both = and_parts (not (h == own)) (has_receiver s receivers h) tests.1 in
      let r = any_has (λ x. is_just h (group_of s x)) receivers both.1 in
      let in_h : group_of s r.0 ≡ Some h = just_same h (group_of s r.0) r.2 in
      let under = receiver_under r.0 r.1 in
      let home : under.home ≡ h = some_injective (sym (rw in_h at under.is_home)) in
      go both.0 under.way (subst (λ (x : ℕ). LeadsUp s under.way x own) home under.leads)
    where
      go : not (h == own) ≡ true → (way : List ℕ) → LeadsUp s way h own → Stands m
      go other [] leads = absurd (let yes_same : (h == own) ≡ true = eq-eqb h own leads in let bad : not true ≡ true = rw yes_same at other in cc)
      go other (n ∷ way) leads = let same : n ≡ m = some_injective (sym leads.0 ∙ up) in stands_of_master m way (inr (h, up)) (subst (λ (x : ℕ). LeadsUp s way x own) same leads.1)

  abbrev rows : List MemberRow
  rows = (record { mount = number; group = Some new; master = None; unbindable = false }) ∷ copies_from (stand_in own new s.last_group (receiving_groups s receivers own)) s (number + 1) receivers

  abbrev copy_of_group : ℕ → GroupRow
  copy_of_group g = record { group = stand_in own new s.last_group (receiving_groups s receivers own) g; master = option_map (stand_in own new s.last_group (receiving_groups s receivers own)) (master_of_group s g) }

  abbrev made : List GroupRow
  made = group_copies (stand_in own new s.last_group (receiving_groups s receivers own)) s (receiving_groups s receivers own)

  abbrev last : ℕ
  last = s.last_group + length (receiving_groups s receivers own)

  stand_own : (k : ℕ) → k ≡ own → stand k ≡ new
  stand_own k e = rw (eq-eqb k own e) refl

  stand_other : (k : ℕ) → (k ≡ own → ⊥) → stand k ≡ s.last_group + 1 + rank k (receiving_groups s receivers own)
  stand_other k e = rw (ne_eqb k own e) refl

  not_own : (h : ℕ) → has h (receiving_groups s receivers own) ≡ true → h ≡ own → ⊥
  not_own h e same =
      let tests = has-from_filter (λ g. not (g == own) && has_receiver s receivers g) (map (λ row. row.group) s.groups) h e in
      let both = and_parts (not (h == own)) (has_receiver s receivers h) tests.1 in
      let other : not (h == own) ≡ true = both.0 in
      let bad : not true ≡ true = rw (eq-eqb h own same) at other in
      cc

  copied_rising : RiseFrom 0 (s.members ++ rows)
  copied_rising = members_follow 0 number s.members rows sound.orderly.rising (omega arith) above (omega arith, copies_rise stand s (number + 1) (number + 1) (omega arith) receivers)

  stand_there : (k : ℕ) → Stands k → IsGroup (added rows made last s) (stand k)
  stand_there k (inl e) = subst (λ (x : ℕ). IsGroup (added rows made last s) x) (sym (stand_own k e)) (old_is_group s rows made last new new_there)
  stand_there k (inr h) = ap is_some (groups_or s rows made last (stand k)) ∙ some_or (group_row s.groups (stand k)) (group_row made (stand k)) (mapped_there copy_of_group (receiving_groups s receivers own) k (stand k) h refl)

  stand_test : (k : ℕ) → Stands k → has_members rows (stand k) ≡ true
  stand_test k (inl e) = or_left (is_just (stand k) (Some new)) _ (just_self (stand k) (Some new) (ap Some (sym (stand_own k e))))
  stand_test k (inr h) =
      let tests = has-from_filter (λ g. not (g == own) && has_receiver s receivers g) (map (λ row. row.group) s.groups) k h in
      let both = and_parts (not (k == own)) (has_receiver s receivers k) tests.1 in
      let r = any_has (λ x. is_just k (group_of s x)) receivers both.1 in
      or_right (is_just (stand k) (Some new)) _ (copy_member stand s (number + 1) receivers r.0 k r.1 (just_same k (group_of s r.0) r.2))

  stand_has : (k : ℕ) → Stands k → HasMembers (added rows made last s) (stand k)
  stand_has k stands = members_from_test (added rows made last s) (stand k) copied_rising (list_any-append (λ row. is_just (stand k) row.group) s.members rows ∙ or_right (has_members s.members (stand k)) (has_members rows (stand k)) (stand_test k stands))

  -- of a group that receivers are in the master has a lower stand-in
  stand_lower : (h m : ℕ) → has h (receiving_groups s receivers own) ≡ true → master_of_group s h ≡ Some m → stand m < stand h
  stand_lower h m e up = go (stands_above h m e up)
    where
      at : stand h ≡ s.last_group + 1 + rank h (receiving_groups s receivers own)
      at = stand_other h (not_own h e)

      go : Stands m → stand m < stand h
      go (inl same) = let low : new ≤ s.last_group = sound.orderly.fresh new new_there in let is_new : stand m ≡ new = stand_own m same in subst (λ (x : ℕ). x < stand h) (sym is_new) (subst (λ (x : ℕ). new < x) (sym at) (omega arith))
      go (inr there) =
          let less : rank m (receiving_groups s receivers own) < rank h (receiving_groups s receivers own) = rank_less m h (sound.orderly.down h m up) (receiving_groups s receivers own) there in
          subst (λ (x : ℕ). x < stand h) (sym (stand_other m (not_own m there))) (subst (λ (x : ℕ). s.last_group + 1 + rank m (receiving_groups s receivers own) < x) (sym at) (omega arith))

  -- of the groups in rising order the stand-ins rise
  stands_rise :
      (low least : ℕ) (gs : List ℕ) → RiseBy (λ (g : ℕ). g) low gs →
      ((g : ℕ) → has g gs ≡ true → has g (receiving_groups s receivers own) ≡ true) →
      ((g : ℕ) → has g gs ≡ true → least ≤ stand g) →
      RiseBy (λ (r : GroupRow). r.group) least (group_copies (stand_in own new s.last_group (receiving_groups s receivers own)) s gs)
  stands_rise low least [] rises among above_least = tt
  stands_rise low least (g ∷ gs) rises among above_least = (
    above_least g (or_left (eqb g g) (has g gs) (eq-eqb g g refl)),
    stands_rise (g + 1) (stand g + 1) gs rises.1 (λ h e. among h (or_right (eqb h g) (has h gs) e)) next,
  )
    where
      first : has g (receiving_groups s receivers own) ≡ true
      first = among g (or_left (eqb g g) (has g gs) (eq-eqb g g refl))

      next : (h : ℕ) → has h gs ≡ true → stand g + 1 ≤ stand h
      next h e =
          let there : has h (receiving_groups s receivers own) ≡ true = among h (or_right (eqb h g) (has h gs) e) in
          let higher : g + 1 ≤ h = all_above (g + 1) gs rises.1 h e in
          let less : rank g (receiving_groups s receivers own) < rank h (receiving_groups s receivers own) = rank_less g h (omega arith) (receiving_groups s receivers own) first in
          subst (λ (x : ℕ). stand g + 1 ≤ x) (sym (stand_other h (not_own h there)))
          (subst (λ (x : ℕ). x + 1 ≤ s.last_group + 1 + rank h (receiving_groups s receivers own)) (sym (stand_other g (not_own g first))) (omega arith))

  copied_groups_rising : RiseBy (λ (r : GroupRow). r.group) 0 (s.groups ++ made)
  copied_groups_rising =
      groups_follow 0 (s.last_group + 1) s.groups made sound.orderly.groups_rising (omega arith)
      (λ h is_group. let le : h ≤ s.last_group = sound.orderly.fresh h is_group in omega arith)
      (stands_rise 0 (s.last_group + 1) (receiving_groups s receivers own)
      (RiseBy-filter (λ (g : ℕ). g) (λ g. not (g == own) && has_receiver s receivers g) 0 (map (λ row. row.group) s.groups) (numbers_rise 0 s.groups sound.orderly.groups_rising))
      (λ g e. e)
      (λ g e. subst (λ (x : ℕ). s.last_group + 1 ≤ x) (sym (stand_other g (not_own g e))) (omega arith)))

  row_found : (m : ℕ) (r : MemberRow) → member_row rows m ≡ Some r → ((r.group ≡ Some new) × (r.master ≡ None)) ⊎ ((x : ℕ) × (has x receivers ≡ true) × (n : ℕ) × (r ≡ copy_row stand n (group_of s x) (slave_in (member_row s.members x))))
  row_found m r e = go (number == m) e
    where
      go : (t : Bool) → cond t (Some (record { mount = number; group = Some new; master = None; unbindable = false })) (member_row (copies_from stand s (number + 1) receivers) m) ≡ Some r → ((r.group ≡ Some new) × (r.master ≡ None)) ⊎ ((x : ℕ) × (has x receivers ≡ true) × (n : ℕ) × (r ≡ copy_row stand n (group_of s x) (slave_in (member_row s.members x))))
      go true e = inl (cc, cc)
      go false e = inr (copy_found stand s (number + 1) receivers m r e)

  copied_well : NamesWell s rows made last
  copied_well = record {
    rising = copied_rising;
    groups_rising = copied_groups_rising;
    row_group = λ m g r found e. ⊎_elim
        (λ first. subst (λ (x : ℕ). IsGroup (added rows made last s) x) (some_injective (sym first.0 ∙ e)) (old_is_group s rows made last new new_there))
        (λ copy.
        let k = copy_group stand copy.2 (group_of s copy.0) (slave_in (member_row s.members copy.0)) g (sym (ap (λ (x : MemberRow). x.group) copy.3) ∙ e) in
        subst (λ (x : ℕ). IsGroup (added rows made last s) x) (sym k.2) (stand_there k.0 (stands_of_receiver copy.0 k.0 copy.1 k.1)))
        (row_found m r found);
    row_master = λ m g r found e. ⊎_elim
        (λ first. absurd (let no : None ≡ Some g = sym first.1 ∙ e in cc))
        (λ copy.
        let k = copy_master stand copy.2 (group_of s copy.0) (slave_in (member_row s.members copy.0)) g (sym (ap (λ (x : MemberRow). x.master) copy.3) ∙ e) in
        let stands = stands_of_slave copy.0 k.1 copy.1 k.0 k.2 in
        (subst (λ (x : ℕ). IsGroup (added rows made last s) x) (sym k.3) (stand_there k.1 stands), subst (λ (x : ℕ). HasMembers (added rows made last s) x) (sym k.3) (stand_has k.1 stands)))
        (row_found m r found);
    group_master = λ h g r found e.
        let of = mapped_found copy_of_group (receiving_groups s receivers own) h r found in
        let at : r.group ≡ h = eqb-true r.group h (found_passes (λ (x : GroupRow). x.group == h) made r found) in
        let is_stand : stand of.0 ≡ h = sym (ap (λ (x : GroupRow). x.group) of.2) ∙ at in
        let m = mapped_some stand (master_of_group s of.0) g (sym (ap (λ (x : GroupRow). x.master) of.2) ∙ e) in
        let stands = stands_above of.0 m.0 of.1 m.1 in
        let lower : stand m.0 < h = subst (λ (x : ℕ). stand m.0 < x) is_stand (stand_lower of.0 m.0 of.1 m.1) in
        (subst (λ (x : ℕ). x < h) (sym m.2) lower, subst (λ (x : ℕ). IsGroup (added rows made last s) x) (sym m.2) (stand_there m.0 stands), subst (λ (x : ℕ). HasMembers (added rows made last s) x) (sym m.2) (stand_has m.0 stands));
    group_last = λ h r found.
        let of = mapped_found copy_of_group (receiving_groups s receivers own) h r found in
        let at : r.group ≡ h = eqb-true r.group h (found_passes (λ (x : GroupRow). x.group == h) made r found) in
        let is_stand : s.last_group + 1 + rank of.0 (receiving_groups s receivers own) ≡ h = sym (stand_other of.0 (not_own of.0 of.1)) ∙ sym (ap (λ (x : GroupRow). x.group) of.2) ∙ at in
        let within : rank of.0 (receiving_groups s receivers own) < length (receiving_groups s receivers own) = rank_bound of.0 (receiving_groups s receivers own) of.1 in
        subst (λ (x : ℕ). x ≤ last) is_stand (omega arith);
    last_rises = omega arith;
  }

  pub copied_keeps : KeepsLaw s (copied own receivers number new s)
  copied_keeps = added_keeps s rows made last sound copied_well
