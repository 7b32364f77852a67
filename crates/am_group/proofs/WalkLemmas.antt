-- A walk over the peer groups under another: what was met and what is pending, and that nothing
-- comes twice.
use Rattle.std.proofs.Common.{◌≡◌, ◌≤◌, ◌<◌, ◌+◌, ◌⊎◌, ℕ, zero, suc, Bool, true, false, cond, ◌&&◌, ◌||◌, List, [], ◌∷◌, ◌++◌, Option, Some, None, refl, sym, ap, subst, inl, inr, ⊎_elim, ◌∙◌, arith}
use Rattle.std.specs.Prelude.{◌==◌, is_some}
use Rattle.std.proofs.lemmas.Bool.{eqb-true, eq-eqb, and_parts, or_cases}
use Rattle.am_names.specs.{GroupRow, is_among}
use Rattle.am_names.specs.PeerGroups.{PeerGroups}
use Rattle.am_group.specs.{AreMet, IsOrderly, count, group_numbers, group_row, groups_where, has_members, is_at_or_under, is_below_it, is_just, live_below, master_in, master_of_group, peopled_up}
use Rattle.am_group.proofs.CountLemmas.{count-append, count-filter, count_one, count_self, numbered_counted, tally}
use Rattle.am_group.proofs.LookupLemmas.{members_from_test}
use Rattle.am_group.proofs.ScanLemmas.{just_same, just_self}
use Rattle.am_group.proofs.UnderLemmas.{up_step}

-- the groups met and those pending, in any order: U tells which are under the first
pub record IsWalk (own : ℕ) (U : ℕ → Bool) (master : ℕ → Option ℕ) (met pending : List ℕ) : Type 0 where
  pub here : 1 ≤ count own met + count own pending
  pub sound : (x : ℕ) → 1 ≤ count x met + count x pending → U x ≡ true
  pub closed : (x h : ℕ) → 1 ≤ count x met → master h ≡ Some x → 1 ≤ count h met + count h pending
  pub from : (x : ℕ) → 1 ≤ count x met + count x pending → (x ≡ own) ⊎ ((n : ℕ) × (master x ≡ Some n) × (1 ≤ count n met))
  pub once : (x : ℕ) → count x met + count x pending ≤ 1

abbrev is_none_yet : ℕ → Bool
is_none_yet zero = true
is_none_yet (suc n) = false

-- how many of these were not met
abbrev pub left : List ℕ → List ℕ → ℕ
left met [] = 0
left met (x ∷ xs) = cond (is_none_yet (count x met)) (suc (left met xs)) (left met xs)

left_no_more : (met : List ℕ) (g : ℕ) (xs : List ℕ) → left (met ++ g ∷ []) xs ≤ left met xs
left_no_more met g [] = omega arith
left_no_more met g (x ∷ xs) = go (count x met) (count x (met ++ g ∷ [])) (let e = count-append x met (g ∷ []) in omega arith) (left_no_more met g xs)
  where
    go : (a b : ℕ) → a ≤ b → left (met ++ g ∷ []) xs ≤ left met xs → cond (is_none_yet b) (suc (left (met ++ g ∷ []) xs)) (left (met ++ g ∷ []) xs) ≤ cond (is_none_yet a) (suc (left met xs)) (left met xs)
    go zero zero le ih = omega arith
    go zero (suc b) le ih = omega arith
    go (suc a) zero le ih = absurd (omega arith)
    go (suc a) (suc b) le ih = omega arith

-- one that is met is one less
pub left_less : (met : List ℕ) (g : ℕ) (xs : List ℕ) → 1 ≤ count g xs → count g met ≡ 0 → left (met ++ g ∷ []) xs < left met xs
left_less met g [] some none = absurd (omega arith)
left_less met g (x ∷ xs) some none = go (g == x) refl some (λ later. left_less met g xs later none)
  where
    here : g ≡ x → cond (is_none_yet (count x (met ++ g ∷ []))) (suc (left (met ++ g ∷ []) xs)) (left (met ++ g ∷ []) xs) < cond (is_none_yet (count x met)) (suc (left met xs)) (left met xs)
    here same = rw (sym same) (rw (none, count-append g met (g ∷ []), none, count_self g) (let le = left_no_more met g xs in omega arith))

    later : (a b : ℕ) → a ≤ b → left (met ++ g ∷ []) xs < left met xs → cond (is_none_yet b) (suc (left (met ++ g ∷ []) xs)) (left (met ++ g ∷ []) xs) < cond (is_none_yet a) (suc (left met xs)) (left met xs)
    later zero zero le ih = omega arith
    later zero (suc b) le ih = omega arith
    later (suc a) zero le ih = absurd (omega arith)
    later (suc a) (suc b) le ih = omega arith

    go : (b : Bool) → (g == x) ≡ b → 1 ≤ cond b (suc (count g xs)) (count g xs) → (1 ≤ count g xs → left (met ++ g ∷ []) xs < left met xs) → cond (is_none_yet (count x (met ++ g ∷ []))) (suc (left (met ++ g ∷ []) xs)) (left (met ++ g ∷ []) xs) < cond (is_none_yet (count x met)) (suc (left met xs)) (left met xs)
    go true e some ih = here (eqb-true g x e)
    go false e some ih = later (count x met) (count x (met ++ g ∷ [])) (let more = count-append x met (g ∷ []) in omega arith) (ih some)

module _ (own : ℕ) (U : ℕ → Bool) (master : ℕ → Option ℕ) (below : ℕ → List ℕ) (first : U own ≡ true) (up : (x : ℕ) → U x ≡ true → (x ≡ own) ⊎ ((n : ℕ) × (master x ≡ Some n) × (U n ≡ true))) (grow : (x n : ℕ) → master x ≡ Some n → U n ≡ true → U x ≡ true) (down : (x n : ℕ) → master x ≡ Some n → n < x) (is : (g x : ℕ) → count x (below g) ≡ cond (is_just g (master x)) 1 0) where
  below_once : (g x : ℕ) → count x (below g) ≤ 1
  below_once g x = go (is_just g (master x)) (is g x)
    where
      go : (b : Bool) → count x (below g) ≡ cond b 1 0 → count x (below g) ≤ 1
      go true e = omega arith
      go false e = omega arith

  below_master : (g x : ℕ) → 1 ≤ count x (below g) → master x ≡ Some g
  below_master g x h = go (is_just g (master x)) refl (is g x)
    where
      go : (b : Bool) → is_just g (master x) ≡ b → count x (below g) ≡ cond b 1 0 → master x ≡ Some g
      go true f e = just_same g (master x) f
      go false f e = absurd (omega arith)

  master_below : (g x : ℕ) → master x ≡ Some g → 1 ≤ count x (below g)
  master_below g x m = go (is_just g (master x)) (just_self g (master x) m) (is g x)
    where
      go : (b : Bool) → b ≡ true → count x (below g) ≡ cond b 1 0 → 1 ≤ count x (below g)
      go true f e = omega arith
      go false f e = absurd cc

  walk_start : IsWalk own U master [] (own ∷ [])
  walk_start = record {
    here = let e = count_self own in omega arith;
    sound = λ x h. subst (λ (k : ℕ). U k ≡ true) (sym (count_one x own (omega arith))) first;
    closed = λ x h i m. absurd (omega arith);
    from = λ x h. inl (count_one x own (omega arith));
    once = λ x. go (x == own);
  }
    where
      go : (b : Bool) → 0 + cond b 1 0 ≤ 1
      go true = omega arith
      go false = omega arith

  -- the first is the lowest
  lowest : (k x : ℕ) → x < k → U x ≡ true → own ≤ x
  lowest zero x less u = absurd (omega arith)
  lowest (suc k) x less u = ⊎_elim
      (λ same. omega arith)
      (λ n.
      let lower : n.0 < x = down x n.0 n.1 in
      let rest : own ≤ n.0 = lowest k n.0 (omega arith) n.2 in
      omega arith)
      (up x u)

  -- one is met, and those below it become pending
  walk_next : (g : ℕ) (met pending rest : List ℕ) → ((x : ℕ) → count x pending ≡ count x rest + count x (g ∷ [])) → IsWalk own U master met pending → IsWalk own U master (met ++ g ∷ []) (rest ++ below g)
  walk_next g met pending rest popped walk = record {
    here = let e = both own in let old = walk.here in omega arith;
    sound = λ x h. split x (walk.sound x) (λ b. grow x g (below_master g x b) (walk.sound g pending_g)) h;
    closed = λ x h t m. closed_at x h m (old_or x t);
    from = λ x h. split x (λ o. ⊎_elim (λ e. inl e) (λ n. inr (n.0, n.1, (let more = count-append n.0 met (g ∷ []) in let was = n.2 in omega arith))) (walk.from x o)) (λ b. inr (g, below_master g x b, (let more = count-append g met (g ∷ []) in let one = count_self g in omega arith))) h;
    once = λ x. once_at x;
  }
    where
      both : (x : ℕ) → count x (met ++ g ∷ []) + count x (rest ++ below g) ≡ count x met + count x pending + count x (below g)
      both x = let a = count-append x met (g ∷ []) in let b = count-append x rest (below g) in let p = popped x in omega arith

      pending_g : 1 ≤ count g met + count g pending
      pending_g = let p = popped g in let one = count_self g in omega arith

      some : (a b : ℕ) → 1 ≤ a + b → (1 ≤ a) ⊎ (1 ≤ b)
      some zero b h = inr (omega arith)
      some (suc a) b h = inl (omega arith)

      split : {P : Type 0} (x : ℕ) → (1 ≤ count x met + count x pending → P) → (1 ≤ count x (below g) → P) → 1 ≤ count x (met ++ g ∷ []) + count x (rest ++ below g) → P
      split x f k h = let e = both x in ⊎_elim f k (some (count x met + count x pending) (count x (below g)) (omega arith))

      old_or : (x : ℕ) → 1 ≤ count x (met ++ g ∷ []) → (1 ≤ count x met) ⊎ (1 ≤ count x (g ∷ []))
      old_or x t = let e = count-append x met (g ∷ []) in some (count x met) (count x (g ∷ [])) (omega arith)

      closed_at : (x h : ℕ) → master h ≡ Some x → (1 ≤ count x met) ⊎ (1 ≤ count x (g ∷ [])) → 1 ≤ count h (met ++ g ∷ []) + count h (rest ++ below g)
      closed_at x h m (inl t) = let e = both h in let old = walk.closed x h t m in omega arith
      closed_at x h m (inr t) = let e = both h in let new = master_below g h (m ∙ ap Some (count_one x g t)) in omega arith

      apart : (x : ℕ) → 1 ≤ count x met + count x pending → 1 ≤ count x (below g) → (1 ≤ 0)
      apart x o b = go (walk.from x o)
        where
          go : (x ≡ own) ⊎ ((n : ℕ) × (master x ≡ Some n) × (1 ≤ count n met)) → 1 ≤ 0
          go (inl e) =
              let lower : g < x = down x g (below_master g x b) in
              let above : own ≤ g = lowest (suc g) g (omega arith) (walk.sound g pending_g) in
              omega arith
          go (inr n) =
              let same : Some n.0 ≡ Some g = sym n.1 ∙ below_master g x b in
              let it : n.0 ≡ g = cc in
              let t : 1 ≤ count g met = subst (λ (k : ℕ). 1 ≤ count k met) it n.2 in
              let p = popped g in
              let one = count_self g in
              let most = walk.once g in
              omega arith

      once_at : (x : ℕ) → count x (met ++ g ∷ []) + count x (rest ++ below g) ≤ 1
      once_at x = go (count x met + count x pending) (count x (below g)) refl refl
        where
          go : (a b : ℕ) → count x met + count x pending ≡ a → count x (below g) ≡ b → count x (met ++ g ∷ []) + count x (rest ++ below g) ≤ 1
          go zero b e f = let eq = both x in let most = below_once g x in omega arith
          go (suc a) zero e f = let eq = both x in let most = walk.once x in omega arith
          go (suc a) (suc b) e f = let bad = apart x (omega arith) (omega arith) in absurd (omega arith)

  -- at the end just those under the first are met, each once
  all_met : (met : List ℕ) → IsWalk own U master met [] → (k x : ℕ) → x < k → U x ≡ true → 1 ≤ count x met
  all_met met walk zero x less u = absurd (omega arith)
  all_met met walk (suc k) x less u = ⊎_elim
      (λ same. let here = walk.here in subst (λ (y : ℕ). 1 ≤ count y met) (sym same) (omega arith))
      (λ n.
      let lower : n.0 < x = down x n.0 n.1 in
      let rest : 1 ≤ count n.0 met = all_met met walk k n.0 (omega arith) n.2 in
      let next : 1 ≤ count x met + 0 = walk.closed n.0 x rest n.1 in
      omega arith)
      (up x u)

  walk_end : (met : List ℕ) → IsWalk own U master met [] → (x : ℕ) → count x met ≡ cond (U x) 1 0
  walk_end met walk x = go (U x) refl (count x met) refl
    where
      go : (b : Bool) → U x ≡ b → (n : ℕ) → count x met ≡ n → count x met ≡ cond b 1 0
      go true u n e = let some = all_met met walk (suc x) x (omega arith) u in let most = walk.once x in omega arith
      go false u zero e = e
      go false u (suc n) e =
          let bad : true ≡ false = sym (walk.sound x (omega arith)) ∙ u in
          absurd cc

-- ---- the groups that have members, and their masters

-- the master of a peer group that has members
abbrev pub live_master : PeerGroups → ℕ → Option ℕ
live_master s g = cond (has_members s.members g) (master_of_group s g) None

module _ (s : PeerGroups) (orderly : IsOrderly s) (own : ℕ) (has : has_members s.members own ≡ true) where
  abbrev U : ℕ → Bool
  U x = is_at_or_under s own x

  first : U own ≡ true
  first = up_step s orderly own own ∙ rw (eq-eqb own own refl, has) refl

  up : (x : ℕ) → U x ≡ true → (x ≡ own) ⊎ ((n : ℕ) × (live_master s x ≡ Some n) × (U n ≡ true))
  up x u =
      let both = and_parts (x == own || is_among (peopled_up s (master_of_group s x)) own) (has_members s.members x) (sym (up_step s orderly own x) ∙ u) in
      ⊎_elim (λ same. inl (eqb-true x own same))
      (λ e. inr (go (master_of_group s x) refl both.1 e))
      (or_cases (x == own) (is_among (peopled_up s (master_of_group s x)) own) both.0)
    where
      go : (o : Option ℕ) → master_of_group s x ≡ o → has_members s.members x ≡ true → is_among (peopled_up s o) own ≡ true → (n : ℕ) × (live_master s x ≡ Some n) × (U n ≡ true)
      go None m h e = absurd cc
      go (Some n) m h e = (n, rw h m, e)

  -- what has a master so has members
  live_parts : (x n : ℕ) → live_master s x ≡ Some n → (has_members s.members x ≡ true) × (master_of_group s x ≡ Some n)
  live_parts x n m = go (has_members s.members x) refl m
    where
      go : (b : Bool) → has_members s.members x ≡ b → cond b (master_of_group s x) None ≡ Some n → (has_members s.members x ≡ true) × (master_of_group s x ≡ Some n)
      go true e m = (e, m)
      go false e m = absurd cc

  grow : (x n : ℕ) → live_master s x ≡ Some n → U n ≡ true → U x ≡ true
  grow x n m u =
      let parts = live_parts x n m in
      up_step s orderly own x ∙
      rw (parts.0, parts.1, u) (yes (x == own))
    where
      yes : (b : Bool) → ((b || true) && true) ≡ true
      yes true = refl
      yes false = refl

  down : (x n : ℕ) → live_master s x ≡ Some n → n < x
  down x n m = orderly.down x n (live_parts x n m).1

  is : (g x : ℕ) → count x (live_below s g) ≡ cond (is_just g (live_master s x)) 1 0
  is g x =
      count-filter (has_members s.members) x (groups_where (is_below_it g) s.groups) ∙
      ap (λ (n : ℕ). cond (has_members s.members x) n 0) (numbered_counted (λ (row : GroupRow). row.group) (is_below_it g) x 0 s.groups orderly.groups_rising) ∙
      go (has_members s.members x) (group_row s.groups x)
    where
      go : (b : Bool) (o : Option GroupRow) → cond b (tally (is_below_it g) o) 0 ≡ cond (is_just g (cond b (master_in o) None)) 1 0
      go true None = refl
      go true (Some row) = refl
      go false o = refl

  pub met_start : IsWalk own U (live_master s) [] (own ∷ [])
  met_start = walk_start own U (live_master s) (live_below s) first up grow down is

  pub met_next : (g : ℕ) (met pending rest : List ℕ) → ((x : ℕ) → count x pending ≡ count x rest + count x (g ∷ [])) → IsWalk own U (live_master s) met pending → IsWalk own U (live_master s) (met ++ g ∷ []) (rest ++ live_below s g)
  met_next = walk_next own U (live_master s) (live_below s) first up grow down is

  pub met_end : (met : List ℕ) → IsWalk own U (live_master s) met [] → AreMet s own met
  met_end = walk_end own U (live_master s) (live_below s) first up grow down is

  -- each has a row
  pub under_stands : (g : ℕ) → U g ≡ true → is_some (group_row s.groups g) ≡ true
  under_stands g u = up_has (up g u)
    where
      up_has : (g ≡ own) ⊎ ((n : ℕ) × (live_master s g ≡ Some n) × (U n ≡ true)) → is_some (group_row s.groups g) ≡ true
      up_has (inl same) =
          let member = members_from_test s own orderly.rising has in
          subst (λ (x : ℕ). is_some (group_row s.groups x) ≡ true) (sym same) (orderly.group_named member.0 own member.1)
      up_has (inr n) = named (group_row s.groups g) refl (live_parts g n.0 n.1).1
        where
          named : (o : Option GroupRow) → group_row s.groups g ≡ o → master_in o ≡ Some n.0 → is_some o ≡ true
          named None e m = absurd cc
          named (Some row) e m = refl

  pub met_stands : (met pending : List ℕ) → IsWalk own U (live_master s) met pending → (g : ℕ) → 1 ≤ count g met + count g pending → 1 ≤ count g (group_numbers s.groups)
  met_stands met pending walk g some = all_rows s.groups (under_stands g (walk.sound g some))
    where
      all_rows : (rows : List GroupRow) → is_some (group_row rows g) ≡ true → 1 ≤ count g (group_numbers rows)
      all_rows [] e = absurd cc
      all_rows (r ∷ rows) e = go (r.group == g) (g == r.group) refl refl e (all_rows rows)
        where
          go : (a b : Bool) → (r.group == g) ≡ a → (g == r.group) ≡ b → is_some (cond a (Some r) (group_row rows g)) ≡ true → (is_some (group_row rows g) ≡ true → 1 ≤ count g (group_numbers rows)) → 1 ≤ cond b (suc (count g (group_numbers rows))) (count g (group_numbers rows))
          go a true e f s ih = omega arith
          go false false e f s ih = ih s
          go true false e f s ih =
              let same : r.group ≡ g = eqb-true r.group g e in
              let bad : (g == r.group) ≡ true = eq-eqb g r.group (sym same) in absurd cc
