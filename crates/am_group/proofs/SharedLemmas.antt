-- The law of receivers for make-shared: a fresh group above which stands what stood above its one member.
use Rattle.std.proofs.Common.{◌≡◌, ◌≤◌, ◌+◌, ◌⊎◌, ℕ, true, false, List, [], ◌∷◌, Option, Some, None, refl, sym, ap, subst, inl, inr, ⊎_elim, ◌∙◌, arith}
use Rattle.std.specs.Prelude.{option_map, is_some, ◌==◌}
use Rattle.std.specs.Option.{option_or}
use Rattle.std.proofs.lemmas.List.Folds.{find-append}
use Rattle.std.proofs.lemmas.Bool.{eqb-true, eq-eqb, ne_eqb, cases_eq}
use Rattle.am_names.specs.{MemberRow, GroupRow}
use Rattle.am_names.specs.PeerGroups.{PeerGroups}
use Rattle.am_group.specs.{member_row, group_row, group_in, slave_in, master_in, group_of, master_of_group, at_row, with_row, with_group, shared_from, shared_row, shared_where, made_shared, IsGroup, IsMaster, HasMembers, IsOrderly, IsPeopled, IsSound}
use Rattle.am_group.proofs.ReceiveLemmas.{LeadsUp, home_where, home_of, IsUnder}
use Rattle.am_group.proofs.LookupLemmas.{found_passes, RiseFrom-map, groups_follow}
use Rattle.am_group.proofs.LawLemmas.{BringsNoneUnder, law_from_under}
use Rattle.am_group.proofs.ChangeLemmas.{KeepsLaw, member_row-map, at_row_mount}

-- look-ups in group rows with one more, of a number that none has
has_of : (o p : Option GroupRow) → is_some o ≡ true → option_or o p ≡ o
has_of None p e = absurd cc
has_of (Some r) p e = refl

lacks : (o p : Option GroupRow) → (is_some o ≡ true → ⊥) → option_or o p ≡ p
lacks None p e = refl
lacks (Some r) p e = absurd (e refl)

none_lacks : (o : Option GroupRow) → o ≡ None → is_some o ≡ true → ⊥
none_lacks None f e = cc
none_lacks (Some r) f e = cc

pub shared_mount : (fresh : ℕ) (r : MemberRow) → (shared_row fresh r).mount ≡ r.mount
shared_mount fresh r = go r.group
  where
    go : (o : Option ℕ) → (shared_from o fresh r).mount ≡ r.mount
    go (Some g) = refl
    go None = refl

abbrev pub after : PeerGroups → ℕ → MemberRow → PeerGroups
after s m row = with_row (shared_row (s.last_group + 1)) m (with_group row.master s)

module _ (s : PeerGroups) (orderly : IsOrderly s) (m : ℕ) (row : MemberRow) (is_row : member_row s.members m ≡ Some row) (alone : row.group ≡ None) where
  not_fresh : (g : ℕ) → IsGroup s g → g ≡ s.last_group + 1 → ⊥
  not_fresh g is_group e = let le : g ≤ s.last_group = orderly.fresh g is_group in omega arith

  group_row_after : (h : ℕ) → group_row (after s m row).groups h ≡ option_or (group_row s.groups h) (group_row ((record { group = s.last_group + 1; master = row.master }) ∷ []) h)
  group_row_after h = find-append (λ (r : GroupRow). r.group == h) s.groups _

  old_group_row : (h : ℕ) → IsGroup s h → group_row (after s m row).groups h ≡ group_row s.groups h
  old_group_row h is_group = group_row_after h ∙ has_of (group_row s.groups h) _ is_group

  -- a group's row afterwards: that before, or the fresh one, or none
  group_row_cases : (h : ℕ) → (IsGroup s h × (group_row (after s m row).groups h ≡ group_row s.groups h)) ⊎ (((h ≡ s.last_group + 1) × (group_row (after s m row).groups h ≡ Some (record { group = s.last_group + 1; master = row.master }))) ⊎ (group_row (after s m row).groups h ≡ None))
  group_row_cases h = go (group_row s.groups h) refl (cases_eq (s.last_group + 1) h)
    where
      go : (o : Option GroupRow) → group_row s.groups h ≡ o → (s.last_group + 1 ≡ h) ⊎ (s.last_group + 1 ≡ h → ⊥) → (IsGroup s h × (group_row (after s m row).groups h ≡ group_row s.groups h)) ⊎ (((h ≡ s.last_group + 1) × (group_row (after s m row).groups h ≡ Some (record { group = s.last_group + 1; master = row.master }))) ⊎ (group_row (after s m row).groups h ≡ None))
      go (Some r) f c = inl (ap is_some f, group_row_after h ∙ has_of (group_row s.groups h) _ (ap is_some f))
      go None f (inl c) = inr (inl (sym c, group_row_after h ∙ rw (f, eq-eqb (s.last_group + 1) h c) refl))
      go None f (inr c) = inr (inr (group_row_after h ∙ rw (f, ne_eqb (s.last_group + 1) h c) refl))

  old_is_group : (h : ℕ) → IsGroup s h → IsGroup (after s m row) h
  old_is_group h e = rw (group_row_after h, has_of (group_row s.groups h) (group_row ((record { group = s.last_group + 1; master = row.master }) ∷ []) h) e) e

  fresh_is_group : (h : ℕ) → h ≡ s.last_group + 1 → IsGroup (after s m row) h
  fresh_is_group h e = rw (group_row_after h, eq-eqb (s.last_group + 1) h (sym e)) (go (group_row s.groups h))
    where
      go : (o : Option GroupRow) → is_some (option_or o (Some (record { group = s.last_group + 1; master = row.master }))) ≡ true
      go (Some r) = refl
      go None = refl

  group_cases : (h : ℕ) → IsGroup (after s m row) h → IsGroup s h ⊎ (h ≡ s.last_group + 1)
  group_cases h e = ⊎_elim (λ p. inl p.0) (λ q. ⊎_elim (λ p. inr p.0) (λ p. absurd (none_lacks (group_row (after s m row).groups h) p e)) q) (group_row_cases h)

  master_cases : (h k : ℕ) → master_of_group (after s m row) h ≡ Some k → (IsGroup s h × (master_of_group s h ≡ Some k)) ⊎ ((h ≡ s.last_group + 1) × (row.master ≡ Some k))
  master_cases h k e = ⊎_elim (λ p. inl (p.0, sym (ap master_in p.1) ∙ e)) (λ q. ⊎_elim (λ p. inr (p.0, sym (ap master_in p.1) ∙ e)) (λ p. absurd (let no : None ≡ Some k = sym (ap master_in p) ∙ e in cc)) q) (group_row_cases h)

  -- the fresh group has the master that the mount had
  pub fresh_master : master_of_group (after s m row) (s.last_group + 1) ≡ row.master
  fresh_master = ⊎_elim
      (λ p. absurd (not_fresh (s.last_group + 1) p.0 refl))
      (λ q. ⊎_elim (λ p. ap master_in p.1) (λ p. absurd (none_lacks (group_row (after s m row).groups (s.last_group + 1)) p (fresh_is_group (s.last_group + 1) refl))) q)
      (group_row_cases (s.last_group + 1))

  -- the mounts' rows afterwards
  member_row_after : (c : ℕ) → member_row (after s m row).members c ≡ option_map (at_row (shared_row (s.last_group + 1)) m) (member_row s.members c)
  member_row_after c = member_row-map (at_row (shared_row (s.last_group + 1)) m) (at_row_mount (shared_row (s.last_group + 1)) m (shared_mount (s.last_group + 1))) s.members c

  other_row : (c : ℕ) → (c ≡ m → ⊥) → member_row (after s m row).members c ≡ member_row s.members c
  other_row c other = member_row_after c ∙ go (member_row s.members c) refl
    where
      go : (o : Option MemberRow) → member_row s.members c ≡ o → option_map (at_row (shared_row (s.last_group + 1)) m) o ≡ o
      go None f = refl
      go (Some r) f =
          let at : r.mount ≡ c = eqb-true r.mount c (found_passes (λ (x : MemberRow). x.mount == c) s.members r f) in
          rw (ne_eqb r.mount m (λ e. other (sym at ∙ e))) refl

  own_row : member_row (after s m row).members m ≡ Some (record { mount = row.mount; group = Some (s.last_group + 1); master = None; unbindable = false })
  own_row =
      let at : row.mount ≡ m = eqb-true row.mount m (found_passes (λ (x : MemberRow). x.mount == m) s.members row is_row) in
      member_row_after m ∙ rw (is_row, eq-eqb row.mount m at, alone) refl

  own_group : (c : ℕ) → c ≡ m → group_of (after s m row) c ≡ Some (s.last_group + 1)
  own_group c e = ap (λ (x : ℕ). group_of (after s m row) x) e ∙ ap group_in own_row

  own_master : (c : ℕ) → c ≡ m → slave_in (member_row (after s m row).members c) ≡ None
  own_master c e = ap (λ (x : ℕ). slave_in (member_row (after s m row).members x)) e ∙ ap slave_in own_row

  old_slave : (k : ℕ) → row.master ≡ Some k → slave_in (member_row s.members m) ≡ Some k
  old_slave k e = ap slave_in is_row ∙ e

  master_old : (k : ℕ) → row.master ≡ Some k → IsGroup s k
  master_old k e = orderly.master_named k (inl (m, old_slave k e))

  pub shared_orderly : IsOrderly (after s m row)
  shared_orderly = record {
    rising = RiseFrom-map (at_row (shared_row (s.last_group + 1)) m) (at_row_mount (shared_row (s.last_group + 1)) m (shared_mount (s.last_group + 1))) 0 s.members orderly.rising;
    groups_rising =
        groups_follow 0 (s.last_group + 1) s.groups ((record { group = s.last_group + 1; master = row.master }) ∷ [])
        orderly.groups_rising (omega arith)
        (λ h is_group. let le : h ≤ s.last_group = orderly.fresh h is_group in omega arith)
        (omega arith, tt);
    group_named = λ c g e. ⊎_elim
        (λ same. fresh_is_group g (some_of (sym e ∙ own_group c same)))
        (λ other. old_is_group g (orderly.group_named c g (sym (ap group_in (other_row c other)) ∙ e)))
        (cases_eq c m);
    master_named = named;
    down = λ h k e. ⊎_elim (λ p. orderly.down h k p.1) (λ p. let le : k ≤ s.last_group = orderly.fresh k (master_old k p.1) in let at : h ≡ s.last_group + 1 = p.0 in omega arith) (master_cases h k e);
    fresh = λ h e. ⊎_elim (λ is_group. let le : h ≤ s.last_group = orderly.fresh h is_group in omega arith) (λ at. omega arith) (group_cases h e);
  }
    where
      some_of : {a b : ℕ} → Some a ≡ Some b → a ≡ b
      some_of e = cc

      named : (g : ℕ) → IsMaster (after s m row) g → IsGroup (after s m row) g
      named g (inl (c, e)) = ⊎_elim
          (λ same. absurd (let no : None ≡ Some g = sym (own_master c same) ∙ e in cc))
          (λ other. old_is_group g (orderly.master_named g (inl (c, sym (ap slave_in (other_row c other)) ∙ e))))
          (cases_eq c m)
      named g (inr (h, e)) = ⊎_elim (λ p. old_is_group g (orderly.master_named g (inr (h, p.1)))) (λ p. old_is_group g (master_old g p.1)) (master_cases h g e)

  -- above what stood before only what stood before
  leads_old : (way : List ℕ) (h g : ℕ) → IsGroup s h → LeadsUp (after s m row) way h g → IsGroup s g × LeadsUp s way h g
  leads_old [] h g is_group leads = (subst (λ (x : ℕ). IsGroup s x) leads is_group, leads)
  leads_old (n ∷ way) h g is_group leads = ⊎_elim
      (λ p. let rest = leads_old way n g (orderly.master_named n (inr (h, p.1))) leads.1 in (rest.0, (p.1, rest.1)))
      (λ p. absurd (not_fresh h is_group p.0))
      (master_cases h n leads.0)

  some_same : {a b : ℕ} → Some a ≡ Some b → a ≡ b
  some_same e = cc

  -- the home of a mount that stood is an old group
  home_old : (c h : ℕ) → home_of s c ≡ Some h → IsGroup s h
  home_old c h e = go (group_of s c) refl e
    where
      go : (o : Option ℕ) → group_of s c ≡ o → home_where o (slave_in (member_row s.members c)) ≡ Some h → IsGroup s h
      go (Some g) f e = orderly.group_named c h (f ∙ e)
      go None f e = orderly.master_named h (inl (c, e))

  home_other : (c : ℕ) → (c ≡ m → ⊥) → home_of (after s m row) c ≡ home_of s c
  home_other c other = ap (λ (o : Option MemberRow). home_where (group_in o) (slave_in o)) (other_row c other)

  home_own : (c h : ℕ) → c ≡ m → home_of (after s m row) c ≡ Some h → h ≡ s.last_group + 1
  home_own c h same e = some_same (sym e ∙ ap (λ (x : ℕ). home_of (after s m row) x) same ∙ ap (λ (o : Option MemberRow). home_where (group_in o) (slave_in o)) own_row)

  -- under an old group the changed mount was before, by the master that it keeps
  own_under : (g h : ℕ) (way : List ℕ) → IsGroup s g → h ≡ s.last_group + 1 → LeadsUp (after s m row) way h g → IsUnder s m g
  own_under g h [] is_group at leads = absurd (not_fresh g is_group (sym leads ∙ at))
  own_under g h (n ∷ way) is_group at leads = ⊎_elim
      (λ p. absurd (not_fresh h p.0 at))
      (λ p. record { home = n; is_home = rw (is_row, alone) p.1; way = way; leads = (leads_old way n g (master_old n p.1) leads.1).1 })
      (master_cases h n leads.0)

  other_under : (c g : ℕ) → (c ≡ m → ⊥) → IsUnder (after s m row) c g → IsGroup s g × IsUnder s c g
  other_under c g other under =
      let is_home : home_of s c ≡ Some under.home = sym (home_other c other) ∙ under.is_home in
      let before = leads_old under.way under.home g (home_old c under.home is_home) under.leads in
      (before.0, record { home = under.home; is_home = is_home; way = under.way; leads = before.1 })

  shared_under : BringsNoneUnder s (after s m row)
  shared_under b c g stands_b stands_c other in_g under = ⊎_elim own away (cases_eq b m)
    where
      own : b ≡ m → (group_of s b ≡ Some g) × IsUnder s c g
      own same =
          let at : s.last_group + 1 ≡ g = some_same (sym (own_group b same) ∙ in_g) in
          absurd (not_fresh g (other_under c g (λ e. other (e ∙ sym same)) under).0 (sym at))

      away : (b ≡ m → ⊥) → (group_of s b ≡ Some g) × IsUnder s c g
      away differs =
          let before : group_of s b ≡ Some g = sym (ap group_in (other_row b differs)) ∙ in_g in (
            before,
            ⊎_elim
                (λ same. subst (λ (x : ℕ). IsUnder s x g) (sym same) (own_under g under.home under.way (orderly.group_named b g before) (home_own c under.home same under.is_home) under.leads))
                (λ apart. (other_under c g apart under).1)
                (cases_eq c m),
          )

  -- the mount that changes was in no group, so that each master keeps its members
  still_has : IsPeopled s → (g : ℕ) → IsMaster s g → HasMembers (after s m row) g
  still_has peopled g is_master =
      let member = peopled g is_master in
      let other : member.0 ≡ m → ⊥ = λ same.
      (let none : None ≡ Some g = sym alone ∙ sym (ap group_in is_row) ∙ ap (λ (x : ℕ). group_of s x) (sym same) ∙ member.1 in cc) in
      (member.0, ap group_in (other_row member.0 other) ∙ member.1)

  -- a master was one before, and keeps its members
  pub shared_peopled : IsPeopled s → IsPeopled (after s m row)
  shared_peopled peopled g (inl (c, e)) = ⊎_elim
      (λ same. absurd (let no : None ≡ Some g = sym (own_master c same) ∙ e in cc))
      (λ other. still_has peopled g (inl (c, sym (ap slave_in (other_row c other)) ∙ e)))
      (cases_eq c m)
  shared_peopled peopled g (inr (h, e)) = ⊎_elim
      (λ p. still_has peopled g (inr (h, p.1)))
      (λ p. still_has peopled g (inl (m, old_slave g p.1)))
      (master_cases h g e)

pub made_shared_keeps : (m : ℕ) (s : PeerGroups) → IsSound s → KeepsLaw s (made_shared m s)
made_shared_keeps m s sound = go (member_row s.members m) (group_of s m) refl refl
  where
    same : KeepsLaw s s
    same = record { sound = sound; law = λ b c stands_b stands_c receives. receives }

    go : (o : Option MemberRow) (in_group : Option ℕ) → member_row s.members m ≡ o → group_in o ≡ in_group → KeepsLaw s (shared_where o in_group m s)
    go None in_group e f = same
    go (Some row) (Some g) e f = same
    go (Some row) None e f = record {
      sound = record {
        orderly = shared_orderly s sound.orderly m row e f;
        peopled = shared_peopled s sound.orderly m row e f sound.peopled;
      };
      law = law_from_under s (after s m row) sound.peopled (shared_under s sound.orderly m row e f);
    }

-- what make-shared makes of a mount in no group
pub shared_here : (s : PeerGroups) (m : ℕ) (row : MemberRow) → member_row s.members m ≡ Some row → row.group ≡ None → made_shared m s ≡ after s m row
shared_here s m row is_row alone = rw (is_row, alone) refl
