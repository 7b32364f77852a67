-- The two orders of the attachments: by file system, and by attachment.
use Rattle.std.proofs.Common.{◌≡◌, ◌≢◌, ◌<◌, ◌==◌, ◌&&◌, ◌||◌, ◌∷◌, ◌++◌, [], ℕ, Bool, true, false, not, cond, List, map, get_or, Option, Some, None, inl, inr, ◌⊎◌, refl, sym, ap, subst, ◌∙◌, arith}
use Rattle.std.specs.Prelude.{find, is_some, IsSome}
use Rattle.std.specs.Option.{option_map}
use Rattle.std.specs.List.{All, list_any}
use Rattle.std.proofs.lemmas.Bool.{eqb-true, eq-eqb, ne_eqb, cases_eq, true≢false}
use Rattle.std.proofs.lemmas.Bool.Decides.{nat_tests}
use Rattle.std.proofs.lemmas.Option.{same_Some, none-some}
use Rattle.std.proofs.lemmas.List.Elements.{All-weaker, All-filter, All-head, All-tail}
use Rattle.std.proofs.lemmas.List.Folds.{list_any-append, list_any_at, Any-from_list_any}
use Rattle.am_names.proofs.Basics.{or_false, or_left, and_false, right_of_and, and_of_both}
use Rattle.am_names.proofs.LeaveLemmas.{others}
use Rattle.am_group.proofs.LookupLemmas.{RiseBy-map, RiseBy-filter, find_map_same, find_filter, found_passes}
use Rattle.am_kernel.specs.{Attached, Holder, RiseByFs, RiseByAttach, AreHeld, holder_of, is_attached, is_held, reattached_row, timeout_row}
use Rattle.am_kernel.proofs.AttachmentLemmas.{reattached_fs, reattached_elsewhere, reattached_here}
use Rattle.am_kernel.proofs.RisingLemmas.{passes, any_is_found, rises_on}

abbrev attach_of : Holder → ℕ
attach_of holder = holder.attach

abbrev fs_of : Attached → ℕ
fs_of row = row.fs

and_turned : (a b : Bool) → (a && b) ≡ (b && a)
and_turned true true = refl
and_turned true false = refl
and_turned false true = refl
and_turned false false = refl

-- ---- a test of each row

any_mapped : {R : Type 0} (test : R → Bool) (f : R → R) → ((r : R) → test (f r) ≡ test r) → (rows : List R) → list_any test (map f rows) ≡ list_any test rows
any_mapped test f same [] = refl
any_mapped {R} test f same (r ∷ rows) =
    ap (λ b. b || list_any test (map f rows)) (same r) ∙ ap (λ b. test r || b) (any_mapped test f same rows)

-- one more row
any_pushed : {R : Type 0} (test : R → Bool) (rows : List R) (r : R) → list_any test (rows ++ r ∷ []) ≡ (list_any test rows || test r)
any_pushed test rows r = list_any-append test rows (r ∷ []) ∙ ap (λ b. list_any test rows || b) (or_false (test r))

-- one that is there is found
pub not_both : (n a : ℕ) (holders : List Holder) → n ≡ a → find (λ (h : Holder). h.attach == n) holders ≡ None → IsSome (holder_of holders a) → ⊥
not_both n a holders same none held =
    true≢false (sym held ∙ ap (λ m. is_some (holder_of holders m)) (sym same) ∙ ap (λ (o : Option Holder). is_some (option_map (λ (h : Holder). h.fs) o)) none)

-- ---- the file system of an attachment

-- a row that is there
row_is_attached : (row : Attached) (rows : List Attached) → is_attached row.fs row.attach (row ∷ rows) ≡ true
row_is_attached row rows =
    or_left _ (is_attached row.fs row.attach rows) (and_of_both _ _ (eq-eqb row.fs row.fs refl) (eq-eqb row.attach row.attach refl))

-- where no row is of the attachment, none is found
none_attached : (a : ℕ) (rows : List Attached) → ((f : ℕ) → is_attached f a rows ≡ false) → find (λ (row : Attached). row.attach == a) rows ≡ None
none_attached a [] none = refl
none_attached a (row ∷ rows) none = by (row.attach == a) refl (none_attached a rows)
  where
    by : (b : Bool) → (row.attach == a) ≡ b → (((f : ℕ) → is_attached f a rows ≡ false) → find (λ (r : Attached). r.attach == a) rows ≡ None) → find (λ (r : Attached). r.attach == a) (row ∷ rows) ≡ None
    by true e later =
        let same : row.attach ≡ a = eqb-true row.attach a e in
        absurd (true≢false (sym (subst (λ (n : ℕ). is_attached row.fs n (row ∷ rows) ≡ true) same (row_is_attached row rows)) ∙ none row.fs))
    by false e later =
        rw e (later (λ f. rest (row.fs == f) (is_attached f a rows) (ap (λ b. ((row.fs == f) && b) || is_attached f a rows) (sym e) ∙ none f)))
      where
        rest : (c d : Bool) → ((c && false) || d) ≡ false → d ≡ false
        rest true d h = h
        rest false d h = h

-- where all that are of the attachment are of one file system, and one is, that is found
one_attached : (a f : ℕ) (rows : List Attached) → All (λ (row : Attached). row.attach ≡ a → row.fs ≡ f) rows → is_attached f a rows ≡ true → option_map (λ (row : Attached). row.fs) (find (λ (row : Attached). row.attach == a) rows) ≡ Some f
one_attached a f [] all there = absurd (true≢false (sym there))
one_attached a f (row ∷ rows) all there = by (row.attach == a) refl (one_attached a f rows)
  where
    by : (b : Bool) → (row.attach == a) ≡ b → (All (λ (r : Attached). r.attach ≡ a → r.fs ≡ f) rows → is_attached f a rows ≡ true → option_map (λ (r : Attached). r.fs) (find (λ (r : Attached). r.attach == a) rows) ≡ Some f) → option_map (λ (r : Attached). r.fs) (find (λ (r : Attached). r.attach == a) (row ∷ rows)) ≡ Some f
    by true e later =
        rw e (ap Some (All-head (λ (r : Attached). r.attach ≡ a → r.fs ≡ f) row rows all (eqb-true row.attach a e)))
    by false e later =
        rw e (later (All-tail (λ (r : Attached). r.attach ≡ a → r.fs ≡ f) row rows all) (rest (row.fs == f) (is_attached f a rows) (ap (λ b. ((row.fs == f) && b) || is_attached f a rows) (sym e) ∙ there)))
      where
        rest : (c d : Bool) → ((c && false) || d) ≡ true → d ≡ true
        rest true d h = h
        rest false d h = h

module _ (holders : List Holder) (rows : List Attached) (ordered : RiseByAttach holders) (held : AreHeld holders rows) where
  -- a row of this attachment is of the file system that is found
  attached_is : (a f : ℕ) → is_attached f a rows ≡ passes attach_of (λ (h : Holder). h.fs == f) (find (λ (h : Holder). h.attach == a) holders)
  attached_is a f = sym (held f a) ∙ any_is_found attach_of a (λ (h : Holder). h.fs == f) 0 holders ordered

  -- each row of the attachment is of the file system that is found
  pub alone : (a : ℕ) → All (λ (row : Attached). row.attach ≡ a → holder_of holders a ≡ Some row.fs) rows
  alone a k d less same =
      let row : Attached = get_or rows k d in
      let there : is_attached row.fs a rows ≡ true = list_any_at (λ (r : Attached). r.fs == row.fs && r.attach == a) rows k d less (and_of_both _ _ (eq-eqb row.fs row.fs refl) (eq-eqb row.attach a same)) in
      by row.fs (find (λ (h : Holder). h.attach == a) holders) (sym (attached_is a row.fs) ∙ there)
    where
      by : (f : ℕ) (o : Option Holder) → passes attach_of (λ (h : Holder). h.fs == f) o ≡ true → option_map (λ (h : Holder). h.fs) o ≡ Some f
      by f None e = absurd (true≢false (sym e))
      by f (Some h) e = ap Some (eqb-true h.fs f e)

  -- what is found by attachment is what a look at each row finds
  pub holder_is : (a : ℕ) → holder_of holders a ≡ option_map (λ (row : Attached). row.fs) (find (λ (row : Attached). row.attach == a) rows)
  holder_is a = by (find (λ (h : Holder). h.attach == a) holders) refl
    where
      by : (o : Option Holder) → find (λ (h : Holder). h.attach == a) holders ≡ o → option_map (λ (h : Holder). h.fs) o ≡ option_map (λ (row : Attached). row.fs) (find (λ (row : Attached). row.attach == a) rows)
      by None e =
          ap (λ (o : Option Attached). option_map (λ (row : Attached). row.fs) o) (sym (none_attached a rows (λ f. attached_is a f ∙ ap (passes attach_of (λ (h : Holder). h.fs == f)) e)))
      by (Some h) e =
          sym (one_attached a h.fs rows
          (All-weaker (λ (row : Attached). row.attach ≡ a → holder_of holders a ≡ Some row.fs) (λ (row : Attached). row.attach ≡ a → row.fs ≡ h.fs)
          (λ (row : Attached) (is : row.attach ≡ a → holder_of holders a ≡ Some row.fs) (same : row.attach ≡ a). same_Some row.fs h.fs (sym (is same) ∙ ap (λ (o : Option Holder). option_map (λ (x : Holder). x.fs) o) e)) rows (alone a))
          (attached_is a h.fs ∙ ap (passes attach_of (λ (x : Holder). x.fs == h.fs)) e ∙ eq-eqb h.fs h.fs refl))

-- ---- numbers that are above all

below_all : (a n f : ℕ) (rows : List Attached) → All (λ (row : Attached). row.attach < n) rows → is_attached f a rows ≡ true → a < n
below_all a n f rows all there =
    let one = Any-from_list_any (λ (row : Attached). row.fs == f && row.attach == a) rows there in
    let same : one.1.attach ≡ a = eqb-true one.1.attach a (right_of_and (one.1.fs == f) (one.1.attach == a) one.4) in
    subst (λ (m : ℕ). m < n) (ap (λ (row : Attached). row.attach) one.3 ∙ same) (all one.0 one.1 one.2)

pub held_below : (n : ℕ) (holders : List Holder) (rows : List Attached) → AreHeld holders rows → All (λ (row : Attached). row.attach < n) rows → All (λ (h : Holder). h.attach < n) holders
held_below n holders rows held all k d less =
    let h : Holder = get_or holders k d in
    let there : is_held h.fs h.attach holders ≡ true = list_any_at (λ (x : Holder). x.attach == h.attach && x.fs == h.fs) holders k d less (and_of_both _ _ (eq-eqb h.attach h.attach refl) (eq-eqb h.fs h.fs refl)) in
    below_all h.attach n h.fs rows all (sym (held h.fs h.attach) ∙ there)

-- ---- one more attachment

pub held_pushed : (holders : List Holder) (rows : List Attached) (h : Holder) (row : Attached) → h.attach ≡ row.attach → h.fs ≡ row.fs → AreHeld holders rows → AreHeld (holders ++ h ∷ []) (rows ++ row ∷ [])
held_pushed holders rows h row same_attach same_fs held f a =
    any_pushed (λ (x : Holder). x.attach == a && x.fs == f) holders h ∙
    ap (λ b. b || ((h.attach == a) && (h.fs == f))) (held f a) ∙
    ap (λ b. is_attached f a rows || b) (ap (λ n. (n == a) && (h.fs == f)) same_attach ∙ ap (λ n. (row.attach == a) && (n == f)) same_fs ∙ and_turned (row.attach == a) (row.fs == f)) ∙
    sym (any_pushed (λ (r : Attached). r.fs == f && r.attach == a) rows row)

-- ---- another timeout

pub held_timeout : (holders : List Holder) (rows : List Attached) (fs timeout : ℕ) → AreHeld holders rows → AreHeld holders (map (timeout_row fs timeout) rows)
held_timeout holders rows fs timeout held f a =
    held f a ∙ sym (any_mapped (λ (r : Attached). r.fs == f && r.attach == a) (timeout_row fs timeout) same rows)
  where
    same : (r : Attached) → ((timeout_row fs timeout r).fs == f && (timeout_row fs timeout r).attach == a) ≡ (r.fs == f && r.attach == a)
    same r = by (r.fs == fs)
      where
        by : (b : Bool) → ((cond b (record r { timeout = timeout }) r).fs == f && (cond b (record r { timeout = timeout }) r).attach == a) ≡ (r.fs == f && r.attach == a)
        by true = refl
        by false = refl

-- ---- another attachment of one file system

module _ (fs n : ℕ) where
  -- the rows of other file systems are as before
  attached_elsewhere : (f a : ℕ) → f ≢ fs → (rows : List Attached) → is_attached f a (map (reattached_row fs n) rows) ≡ is_attached f a rows
  attached_elsewhere f a other rows = any_mapped (λ (r : Attached). r.fs == f && r.attach == a) (reattached_row fs n) same rows
    where
      same : (r : Attached) → ((reattached_row fs n r).fs == f && (reattached_row fs n r).attach == a) ≡ (r.fs == f && r.attach == a)
      same r = by (cases_eq r.fs fs)
        where
          by : (r.fs ≡ fs) ⊎ (r.fs ≢ fs) → ((reattached_row fs n r).fs == f && (reattached_row fs n r).attach == a) ≡ (r.fs == f && r.attach == a)
          by (inl is) =
              let none : (r.fs == f) ≡ false = ne_eqb r.fs f (λ (e : r.fs ≡ f). other (sym e ∙ is)) in
              ap (λ m. (m == f) && ((reattached_row fs n r).attach == a)) (reattached_fs fs n r) ∙
              ap (λ b. b && ((reattached_row fs n r).attach == a)) none ∙ sym (ap (λ b. b && (r.attach == a)) none)
          by (inr apart) = ap (λ (x : Attached). x.fs == f && x.attach == a) (reattached_elsewhere fs n r apart)

  -- its own row, if it has one, has the new attachment
  attached_here : (a : ℕ) (rows : List Attached) → RiseByFs rows → is_attached fs a (map (reattached_row fs n) rows) ≡ (is_some (find (λ (r : Attached). r.fs == fs) rows) && (n == a))
  attached_here a rows rises =
      any_is_found fs_of fs (λ (r : Attached). r.attach == a) 0 (map (reattached_row fs n) rows) (RiseBy-map fs_of (reattached_row fs n) (reattached_fs fs n) 0 rows rises) ∙
      ap (passes fs_of (λ (r : Attached). r.attach == a)) (find_map_same fs_of fs (reattached_row fs n) (reattached_fs fs n) rows) ∙
      by (find (λ (r : Attached). r.fs == fs) rows) refl
    where
      by : (o : Option Attached) → find (λ (r : Attached). r.fs == fs) rows ≡ o → passes fs_of (λ (r : Attached). r.attach == a) (option_map (reattached_row fs n) o) ≡ (is_some o && (n == a))
      by None e = refl
      by (Some r) e =
          let mine : r.fs ≡ fs = eqb-true r.fs fs (found_passes (λ (x : Attached). x.fs == fs) rows r e) in
          ap (λ (x : Attached). x.attach == a) (sym (reattached_here fs n r mine))

  -- where it has none, nothing changes
  pub held_absent : (holders : List Holder) (rows : List Attached) → RiseByFs rows → AreHeld holders rows → find (λ (r : Attached). r.fs == fs) rows ≡ None → AreHeld holders (map (reattached_row fs n) rows)
  held_absent holders rows rises held none f a = by (cases_eq f fs)
    where
      here : is_attached fs a rows ≡ is_attached fs a (map (reattached_row fs n) rows)
      here =
          any_is_found fs_of fs (λ (r : Attached). r.attach == a) 0 rows rises ∙ ap (passes fs_of (λ (r : Attached). r.attach == a)) none ∙
          sym (attached_here a rows rises ∙ ap (λ (o : Option Attached). is_some o && (n == a)) none)

      by : (f ≡ fs) ⊎ (f ≢ fs) → is_held f a holders ≡ is_attached f a (map (reattached_row fs n) rows)
      by (inl same) = held f a ∙ subst (λ (g : ℕ). is_attached g a rows ≡ is_attached g a (map (reattached_row fs n) rows)) (sym same) here
      by (inr other) = held f a ∙ sym (attached_elsewhere f a other rows)

  module _ (holders : List Holder) (rows : List Attached) (row : Attached) (rises : RiseByFs rows) (ordered : RiseByAttach holders) (held : AreHeld holders rows) (is : find (λ (r : Attached). r.fs == fs) rows ≡ Some row) where
    -- the file system has the attachment of its row, and no other
    old_here : (a : ℕ) → is_held fs a holders ≡ (row.attach == a)
    old_here a =
        held fs a ∙ any_is_found fs_of fs (λ (r : Attached). r.attach == a) 0 rows rises ∙ ap (passes fs_of (λ (r : Attached). r.attach == a)) is

    -- its attachment is listed
    pub old_held : holder_of holders row.attach ≡ Some fs
    old_held =
        by (find (λ (h : Holder). h.attach == row.attach) holders)
        (sym (any_is_found attach_of row.attach (λ (h : Holder). h.fs == fs) 0 holders ordered) ∙ old_here row.attach ∙ eq-eqb row.attach row.attach refl)
      where
        by : (o : Option Holder) → passes attach_of (λ (h : Holder). h.fs == fs) o ≡ true → option_map (λ (h : Holder). h.fs) o ≡ Some fs
        by None e = absurd (true≢false (sym e))
        by (Some h) e = ap Some (eqb-true h.fs fs e)

    -- no other file system has it
    old_elsewhere : (f : ℕ) → f ≢ fs → is_held f row.attach holders ≡ false
    old_elsewhere f other =
        any_is_found attach_of row.attach (λ (h : Holder). h.fs == f) 0 holders ordered ∙
        by (find (λ (h : Holder). h.attach == row.attach) holders) old_held
      where
        by : (o : Option Holder) → option_map (λ (h : Holder). h.fs) o ≡ Some fs → passes attach_of (λ (h : Holder). h.fs == f) o ≡ false
        by None e = refl
        by (Some h) e =
            let mine : h.fs ≡ fs = same_Some h.fs fs e in
            ne_eqb h.fs f (λ (same : h.fs ≡ f). other (sym same ∙ mine))

    -- what is left without it
    left_held : (f a : ℕ) → is_held f a (others attach_of row.attach holders) ≡ (not (a == row.attach) && is_held f a holders)
    left_held f a =
        any_is_found attach_of a (λ (h : Holder). h.fs == f) 0 (others attach_of row.attach holders) (RiseBy-filter attach_of (λ (h : Holder). not (h.attach == row.attach)) 0 holders ordered) ∙
        ap (passes attach_of (λ (h : Holder). h.fs == f)) (find_filter attach_of a (λ k. not (k == row.attach)) holders) ∙
        by (not (a == row.attach)) ∙
        ap (λ b. not (a == row.attach) && b) (sym (any_is_found attach_of a (λ (h : Holder). h.fs == f) 0 holders ordered))
      where
        by : (b : Bool) → passes attach_of (λ (h : Holder). h.fs == f) (cond b (find (λ (h : Holder). h.attach == a) holders) None) ≡ (b && passes attach_of (λ (h : Holder). h.fs == f) (find (λ (h : Holder). h.attach == a) holders))
        by true = refl
        by false = refl

    -- the new one in its place
    pub held_renewed : (new : Holder) → new.attach ≡ n → new.fs ≡ fs → AreHeld (others attach_of row.attach holders ++ new ∷ []) (map (reattached_row fs n) rows)
    held_renewed new new_attach new_fs f a =
        any_pushed (λ (h : Holder). h.attach == a && h.fs == f) (others attach_of row.attach holders) new ∙
        ap (λ b. b || ((new.attach == a) && (new.fs == f))) (left_held f a) ∙
        ap (λ m. (not (a == row.attach) && is_held f a holders) || ((m == a) && (new.fs == f))) new_attach ∙
        ap (λ m. (not (a == row.attach) && is_held f a holders) || ((n == a) && (m == f))) new_fs ∙
        by (cases_eq f fs)
      where
        -- the old one isn't its own any more
        gone : (not (a == row.attach) && (row.attach == a)) ≡ false
        gone = grind (arith, nat_tests)

        here : ((not (a == row.attach) && is_held fs a holders) || ((n == a) && (fs == fs))) ≡ is_attached fs a (map (reattached_row fs n) rows)
        here =
            ap (λ b. (not (a == row.attach) && b) || ((n == a) && (fs == fs))) (old_here a) ∙
            ap (λ b. b || ((n == a) && (fs == fs))) gone ∙
            ap (λ b. (n == a) && b) (eq-eqb fs fs refl) ∙
            and_turned (n == a) true ∙
            sym (attached_here a rows rises ∙ ap (λ (o : Option Attached). is_some o && (n == a)) is)

        elsewhere : f ≢ fs → (not (a == row.attach) && is_held f a holders) ≡ is_held f a holders
        elsewhere other = step (cases_eq a row.attach)
          where
            step : (a ≡ row.attach) ⊎ (a ≢ row.attach) → (not (a == row.attach) && is_held f a holders) ≡ is_held f a holders
            step (inl same) =
                let none : is_held f a holders ≡ false = subst (λ (m : ℕ). is_held f m holders ≡ false) (sym same) (old_elsewhere f other) in
                ap (λ b. not (a == row.attach) && b) none ∙ and_false (not (a == row.attach)) ∙ sym none
            step (inr apart) = ap (λ b. not b && is_held f a holders) (ne_eqb a row.attach apart)

        by : (f ≡ fs) ⊎ (f ≢ fs) → ((not (a == row.attach) && is_held f a holders) || ((n == a) && (fs == f))) ≡ is_attached f a (map (reattached_row fs n) rows)
        by (inl same) =
            subst (λ (g : ℕ). ((not (a == row.attach) && is_held g a holders) || ((n == a) && (fs == g))) ≡ is_attached g a (map (reattached_row fs n) rows)) (sym same) here
        by (inr other) =
            ap (λ b. b || ((n == a) && (fs == f))) (elsewhere other) ∙
            ap (λ b. is_held f a holders || ((n == a) && b)) (ne_eqb fs f (λ (e : fs ≡ f). other (sym e))) ∙
            ap (λ b. is_held f a holders || b) (and_false (n == a)) ∙ or_false (is_held f a holders) ∙
            held f a ∙ sym (attached_elsewhere f a other rows)

    -- it rises still
    pub rises_renewed : (new : Holder) → new.attach ≡ n → All (λ (r : Attached). r.attach < n) rows → RiseByAttach (others attach_of row.attach holders ++ new ∷ [])
    rises_renewed new new_attach above =
        let below : All (λ (h : Holder). h.attach < new.attach) holders = subst (λ (m : ℕ). All (λ (h : Holder). h.attach < m) holders) (sym new_attach) (held_below n holders rows held above) in
        rises_on attach_of 0 (others attach_of row.attach holders) new (RiseBy-filter attach_of (λ (h : Holder). not (h.attach == row.attach)) 0 holders ordered) (omega arith)
        (All-filter (λ (h : Holder). not (h.attach == row.attach)) (λ (h : Holder). h.attach < new.attach) holders below)

-- ---- an attachment while a daemon is attached

-- where all rows of the attachment pass, or none does, a test of them all is one test
pub find_both : (a : ℕ) (test : ℕ → Bool) (b : Bool) (rows : List Attached) → All (λ (row : Attached). row.attach ≡ a → test row.fs ≡ b) rows → find (λ (row : Attached). row.attach == a && test row.fs) rows ≡ cond b (find (λ (row : Attached). row.attach == a) rows) None
find_both a test true [] all = refl
find_both a test false [] all = refl
find_both a test b (row ∷ rows) all = by (row.attach == a) refl (find_both a test b rows (All-tail (λ (r : Attached). r.attach ≡ a → test r.fs ≡ b) row rows all))
  where
    rest : List Attached → Option Attached
    rest xs = find (λ (r : Attached). r.attach == a && test r.fs) xs

    plain : List Attached → Option Attached
    plain xs = find (λ (r : Attached). r.attach == a) xs

    both : (c : Bool) → rest rows ≡ cond c (plain rows) None → cond (true && c) (Some row) (rest rows) ≡ cond c (Some row) None
    both true h = refl
    both false h = h

    by : (c : Bool) → (row.attach == a) ≡ c → rest rows ≡ cond b (plain rows) None → cond ((row.attach == a) && test row.fs) (Some row) (rest rows) ≡ cond b (cond (row.attach == a) (Some row) (plain rows)) None
    by true e later =
        let is : test row.fs ≡ b = All-head (λ (r : Attached). r.attach ≡ a → test r.fs ≡ b) row rows all (eqb-true row.attach a e) in
        rw (e, is) (both b later)
    by false e later = rw e later

abbrev fs_found : Option Attached → Option ℕ
fs_found o = option_map (λ (row : Attached). row.fs) o

module _ (a : ℕ) (test : ℕ → Bool) (rows : List Attached) (o : Option ℕ) (found : o ≡ fs_found (find (λ (row : Attached). row.attach == a) rows)) (all : All (λ (row : Attached). row.attach ≡ a → o ≡ Some row.fs) rows) where
  pub none_passes : o ≡ None → fs_found (find (λ (row : Attached). row.attach == a && test row.fs) rows) ≡ None
  none_passes none =
      ap fs_found (find_both a test false rows (All-weaker (λ (row : Attached). row.attach ≡ a → o ≡ Some row.fs) (λ (row : Attached). row.attach ≡ a → test row.fs ≡ false)
      (λ (row : Attached) (is : row.attach ≡ a → o ≡ Some row.fs) (same : row.attach ≡ a). absurd (none-some row.fs (sym none ∙ is same))) rows all))

  one_tested : (f : ℕ) (b : Bool) → o ≡ Some f → test f ≡ b → find (λ (row : Attached). row.attach == a && test row.fs) rows ≡ cond b (find (λ (row : Attached). row.attach == a) rows) None
  one_tested f b some passing =
      find_both a test b rows (All-weaker (λ (row : Attached). row.attach ≡ a → o ≡ Some row.fs) (λ (row : Attached). row.attach ≡ a → test row.fs ≡ b)
      (λ (row : Attached) (is : row.attach ≡ a → o ≡ Some row.fs) (same : row.attach ≡ a). ap test (sym (same_Some f row.fs (sym some ∙ is same))) ∙ passing) rows all)

  pub one_fails : (f : ℕ) → o ≡ Some f → test f ≡ false → fs_found (find (λ (row : Attached). row.attach == a && test row.fs) rows) ≡ None
  one_fails f some fails = ap fs_found (one_tested f false some fails)

  pub one_passes : (f : ℕ) → o ≡ Some f → test f ≡ true → fs_found (find (λ (row : Attached). row.attach == a && test row.fs) rows) ≡ Some f
  one_passes f some passing = ap fs_found (one_tested f true some passing) ∙ sym found ∙ some
