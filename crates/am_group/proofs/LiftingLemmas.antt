-- Rows and lists of followers that get another master.
use Rattle.std.proofs.Common.{◌≡◌, ◌≢◌, ◌≤◌, ◌<◌, ◌+◌, ℕ, zero, suc, Bool, true, false, cond, not, ◌&&◌, ◌||◌, List, [], ◌∷◌, ◌++◌, length, take, get_or, Option, Some, None, Ok, Err, refl, sym, ap, subst, ◌∙◌, arith}
use Rattle.std.specs.Prelude.{map, option_map, ◌==◌}
use Rattle.std.specs.List.{list_all, list_any, slice_set}
use Rattle.std.specs.List.Sorted.{IsBinarySearchResult, IsStrictlyIncreasing}
use Rattle.std.specs.Ordering.{nat_cmp}
use Rattle.std.proofs.lemmas.Bool.{eqb-true, eq-eqb, ne_eqb}
use Rattle.std.proofs.lemmas.List.{take_all, take_more}
use Rattle.am_names.proofs.Basics.{and_false, or_false, or_left, or_right, left_of_and, right_of_and, false_where_not, equal_either_way}
use Rattle.am_names.specs.{GroupRow, RiseBy, is_among}
use Rattle.am_index.specs.{Index, IsIndexOf, ListsRise, SameLists, has, listed, numbered}
use Rattle.am_index.proofs.RowLemmas.{found_above, numbered_cons, row_of}
use Rattle.am_index.proofs.SetLemmas.{among_append, among_numbered, passes, same_held, up_rises}
use Rattle.am_group.specs.{AreApart, AreLifts, DropsAll, Links, LinksOne, Unlinks, UnlinksOne, gets_master, gets_one, group_numbers, is_just, is_one_of, lift_in}
use Rattle.am_group.proofs.FindLemmas.{rows_rise, index_found, all_differ}
use Rattle.am_group.proofs.LookupLemmas.{find_map_same}
use Rattle.am_group.proofs.IndexedLemmas.{where_rises}

and_true : (b : Bool) → (b && true) ≡ b
and_true true = refl
and_true false = refl

-- those of the first of these groups have their new masters
abbrev pub lifts_first : {R : Type 0} → (R → Option ℕ) → (Option ℕ → R → R) → List GroupRow → ℕ → R → R
lifts_first master to lifts k r =
    cond (is_one_of (group_numbers (take k lifts)) (master r)) (to (lift_in lifts (master r)) r) r

-- ---- a row that is written over

module _ {R : Type 0} (number : R → ℕ) where
  abbrev changed : (R → R) → ℕ → R → R
  changed f m r = cond (number r == m) (f r) r

  abbrev changed_where : (R → R) → List ℕ → R → R
  changed_where f ms r = cond (is_among ms (number r)) (f r) r

  none_changed :
      (f : R → R) (m : ℕ) (rows : List R) → ((i : ℕ) (d : R) → i < length rows → number (get_or rows i d) ≢ m) →
      map (changed f m) rows ≡ rows
  none_changed f m [] differ = refl
  none_changed f m (r ∷ rows) differ =
      rw (ne_eqb (number r) m (differ 0 r (omega arith)))
      (ap (λ (xs : List R). r ∷ xs) (none_changed f m rows (λ i d within. differ (suc i) d (omega arith))))

  one_changed :
      (f : R → R) (m : ℕ) (rows : List R) →
      ((i j : ℕ) (d : R) → i < j → j < length rows → number (get_or rows i d) < number (get_or rows j d)) →
      (i : ℕ) (row : R) → i < length rows → row ≡ get_or rows i row → number (get_or rows i row) ≡ m →
      slice_set rows i (f row) ≡ map (changed f m) rows
  one_changed f m [] rise i row within is e = absurd (omega arith)
  one_changed f m (r ∷ rows) rise zero row within is e =
      rw (eq-eqb (number r) m e)
      (ap (λ (x : R). f x ∷ rows) is ∙
      ap (λ (xs : List R). f r ∷ xs) (sym (none_changed f m rows (λ j k less same.
      let up : number r < number (get_or rows j k) = rise 0 (suc j) k (omega arith) (omega arith) in
      omega arith))))
  one_changed f m (r ∷ rows) rise (suc i) row within is e =
      let up : number r < number (get_or rows i row) = rise 0 (suc i) row (omega arith) (omega arith) in
      rw (ne_eqb (number r) m (λ same. omega arith))
      (ap (λ (xs : List R). r ∷ xs)
      (one_changed f m rows (λ j k d less h. rise (suc j) (suc k) d (omega arith) (omega arith)) i row (omega arith) is e))

  module _ (f : R → R) (rows : List R) (rises : RiseBy number 0 rows) (m : ℕ) where
    pub set_found :
        (i : ℕ) (row : R) → i < length rows → row ≡ get_or rows i row →
        IsBinarySearchResult (λ (r : R). nat_cmp (number r) m) rows (Ok i) →
        slice_set rows i (f row) ≡ map (changed f m) rows
    set_found i row less is equal =
        one_changed f m rows (rows_rise number 0 rows rises) i row less is (index_found number rows rises m i less equal row)

    pub set_absent :
        (i : ℕ) → IsBinarySearchResult (λ (r : R). nat_cmp (number r) m) rows (Err i) →
        rows ≡ map (changed f m) rows
    set_absent i parted = sym (none_changed f m rows (all_differ number rows rises m i parted))

  -- one more of the rows that change
  module _ (f : R → R) (keeps : (r : R) → number (f r) ≡ number r) (twice : (r : R) → f (f r) ≡ f r) where
    pub change_none : (rows : List R) → rows ≡ map (changed_where f []) rows
    change_none [] = refl
    change_none (r ∷ rows) = ap (λ (xs : List R). r ∷ xs) (change_none rows)

    change_next :
        (m : ℕ) (front : List ℕ) (rows : List R) →
        map (changed f m) (map (changed_where f front) rows) ≡ map (changed_where f (front ++ m ∷ [])) rows
    change_next m front [] = refl
    change_next m front (r ∷ rows) =
        ap (λ (xs : List R). changed f m (changed_where f front r) ∷ xs) (change_next m front rows) ∙
        ap (λ (x : R). x ∷ map (changed_where f (front ++ m ∷ [])) rows)
        (go (is_among front (number r)) (number r == m) refl ∙
        ap (λ (b : Bool). cond b (f r) r)
        (sym (among_append front (m ∷ []) (number r) ∙ ap (λ (b : Bool). is_among front (number r) || b) (or_false (m == number r) ∙ equal_either_way m (number r)))))
      where
        same : (b : Bool) → cond b (f (f r)) (f r) ≡ f r
        same true = twice r
        same false = refl

        go : (a b : Bool) → (number r == m) ≡ b → changed f m (cond a (f r) r) ≡ cond (a || b) (f r) r
        go true b e = same (number (f r) == m)
        go false true e = rw e refl
        go false false e = rw e refl

    pub change_more :
        (ms : List ℕ) (i m : ℕ) → i < length ms → m ≡ get_or ms i m → (old mid new : List R) →
        mid ≡ map (changed_where f (take i ms)) old → new ≡ map (changed f m) mid →
        new ≡ map (changed_where f (take (i + 1) ms)) old
    change_more ms i m within is old mid new was next =
        next ∙ ap (map (changed f m)) was ∙ change_next m (take i ms) old ∙
        ap (λ (xs : List ℕ). map (changed_where f xs) old)
        (ap (λ (x : ℕ). take i ms ++ x ∷ []) is ∙ sym (take_more ms i m within))

    pub change_rises : (low : ℕ) (ms : List ℕ) (rows : List R) → RiseBy number low rows → RiseBy number low (map (changed_where f ms) rows)
    change_rises low ms [] rises = tt
    change_rises low ms (r ∷ rows) rises = go (is_among ms (number r)) (change_rises (number r + 1) ms rows rises.1)
      where
        go :
            (b : Bool) → RiseBy number (number r + 1) (map (changed_where f ms) rows) →
            RiseBy number low (cond b (f r) r ∷ map (changed_where f ms) rows)
        go true rest = (
          subst (λ (n : ℕ). low ≤ n) (sym (keeps r)) rises.0,
          subst (λ (n : ℕ). RiseBy number (n + 1) (map (changed_where f ms) rows)) (sym (keeps r)) rest,
        )
        go false rest = (rises.0, rest)

  -- what two functions make of the rows that are there is the same
  pub map_there :
      (f g : R → R) (low : ℕ) (rows : List R) → RiseBy number low rows →
      ((r : R) → row_of number rows (number r) ≡ Some r → f r ≡ g r) → map f rows ≡ map g rows
  map_there f g low [] rises same = refl
  map_there f g low (r ∷ rows) rises same =
      ap (λ (x : R). x ∷ map f rows) (same r (rw (eq-eqb (number r) (number r) refl) refl)) ∙
      ap (λ (xs : List R). g r ∷ xs)
      (map_there f g (number r + 1) rows rises.1 (λ x there.
      let above : number r + 1 ≤ number x = found_above number (number r + 1) rows rises.1 (number x) x there in
      same x (rw (ne_eqb (number r) (number x) (λ e. omega arith)) there)))

  -- rows that change in nothing that the test asks
  pub numbered_map :
      (t : R → Bool) (f : R → R) → ((r : R) → number (f r) ≡ number r) → ((r : R) → t (f r) ≡ t r) → (rows : List R) →
      numbered number t (map f rows) ≡ numbered number t rows
  numbered_map t f keeps same [] = refl
  numbered_map t f keeps same (r ∷ rows) =
      numbered_cons number t (f r) (map f rows) ∙
      ap (λ (b : Bool). cond b (number (f r) ∷ numbered number t (map f rows)) (numbered number t (map f rows))) (same r) ∙
      ap (λ (n : ℕ). cond (t r) (n ∷ numbered number t (map f rows)) (numbered number t (map f rows))) (keeps r) ∙
      ap (λ (xs : List ℕ). cond (t r) (number r ∷ xs) xs) (numbered_map t f keeps same rows) ∙
      sym (numbered_cons number t r rows)

-- ---- the lists of the masters that followers get

all_at : {X : Type 0} (p : X → Bool) (xs : List X) → list_all p xs ≡ true → (i : ℕ) (d : X) → i < length xs → p (get_or xs i d) ≡ true
all_at p [] all i d within = absurd (omega arith)
all_at p (x ∷ xs) all zero d within = left_of_and (p x) (list_all p xs) all
all_at p (x ∷ xs) all (suc i) d within = all_at p xs (right_of_and (p x) (list_all p xs) all) i d (omega arith)

all_take : {X : Type 0} (p : X → Bool) (k : ℕ) (xs : List X) → list_all p xs ≡ true → list_all p (take k xs) ≡ true
all_take p zero xs all = refl
all_take p (suc k) [] all = refl
all_take p (suc k) (x ∷ xs) all =
    rw (left_of_and (p x) (list_all p xs) all) (all_take p k xs (right_of_and (p x) (list_all p xs) all))

any_take : {X : Type 0} (p : X → Bool) (k : ℕ) (xs : List X) → list_any p (take k xs) ≡ true → list_any p xs ≡ true
any_take p zero xs some = absurd cc
any_take p (suc k) [] some = absurd cc
any_take p (suc k) (x ∷ xs) some = go (p x) some (any_take p k xs)
  where
    go : (b : Bool) → (b || list_any p (take k xs)) ≡ true → (list_any p (take k xs) ≡ true → list_any p xs ≡ true) → (b || list_any p xs) ≡ true
    go true some ih = refl
    go false some ih = ih some

any_at : {X : Type 0} (p : X → Bool) (xs : List X) (i : ℕ) (d : X) → i < length xs → p (get_or xs i d) ≡ true → list_any p xs ≡ true
any_at p [] i d within e = absurd (omega arith)
any_at p (x ∷ xs) zero d within e = or_left (p x) (list_any p xs) e
any_at p (x ∷ xs) (suc i) d within e = or_right (p x) (list_any p xs) (any_at p xs i d (omega arith) e)

any_more :
    {X : Type 0} (p : X → Bool) (xs : List X) (i : ℕ) (x : X) → i < length xs → x ≡ get_or xs i x →
    list_any p (take (i + 1) xs) ≡ (list_any p (take i xs) || p x)
any_more {X} p xs i x within is =
    ap (list_any p) (take_more xs i x within ∙ ap (λ (y : X). take i xs ++ y ∷ []) (sym is)) ∙ behind (take i xs)
  where
    behind : (ys : List X) → list_any p (ys ++ x ∷ []) ≡ (list_any p ys || p x)
    behind [] = or_false (p x)
    behind (y ∷ ys) = go (p y) (behind ys)
      where
        go : (b : Bool) → list_any p (ys ++ x ∷ []) ≡ (list_any p ys || p x) → (b || list_any p (ys ++ x ∷ [])) ≡ ((b || list_any p ys) || p x)
        go true ih = refl
        go false ih = ih

-- each is one of their groups
own_named : (q : ℕ → Bool) (lifts : List GroupRow) → ((g : ℕ) → is_among (group_numbers lifts) g ≡ true → q g ≡ true) → list_all (λ l. q l.group) lifts ≡ true
own_named q [] all = refl
own_named q (l ∷ lifts) all =
    rw (all l.group (or_left (l.group == l.group) (is_among (group_numbers lifts) l.group) (eq-eqb l.group l.group refl)))
    (own_named q lifts (λ g e. all g (or_right (l.group == g) (is_among (group_numbers lifts) g) e)))

-- where the groups have the same lists, so are the followers
gets_same :
    (q : ℕ → Bool) (a b : Index) → ((g x : ℕ) → q g ≡ true → has a g x ≡ has b g x) → (lifts : List GroupRow) →
    list_all (λ l. q l.group) lifts ≡ true → (n x : ℕ) → gets_one a lifts n x ≡ gets_one b lifts n x
gets_same q a b same [] all n x = refl
gets_same q a b same (l ∷ lifts) all n x =
    ap (λ (c : Bool). (is_just n l.master && c) || gets_one a lifts n x) (same l.group x (left_of_and (q l.group) _ all)) ∙
    ap (λ (c : Bool). (is_just n l.master && has b l.group x) || c)
    (gets_same q a b same lifts (right_of_and (q l.group) _ all) n x)

-- none gets one of the groups as its master
gets_none :
    (gs : List ℕ) (index : Index) (lifts : List GroupRow) → list_all (λ l. not (is_one_of gs l.master)) lifts ≡ true →
    (g : ℕ) → is_among gs g ≡ true → (x : ℕ) → gets_one index lifts g x ≡ false
gets_none gs index [] all g named x = refl
gets_none gs index (l ∷ lifts) all g named x =
    ap (λ (c : Bool). (c && has index l.group x) || gets_one index lifts g x) (other_master gs l all g named) ∙
    gets_none gs index lifts (right_of_and (not (is_one_of gs l.master)) _ all) g named x
  where
    other_master :
        (gs : List ℕ) (l : GroupRow) → (not (is_one_of gs l.master) && list_all (λ k. not (is_one_of gs k.master)) lifts) ≡ true →
        (g : ℕ) → is_among gs g ≡ true → is_just g l.master ≡ false
    other_master gs l all g named = go l.master (false_where_not (is_one_of gs l.master) (left_of_and (not (is_one_of gs l.master)) _ all))
      where
        go : (o : Option ℕ) → is_one_of gs o ≡ false → is_just g o ≡ false
        go None e = refl
        go (Some h) e = ne_eqb h g (λ same. let bad : true ≡ false = sym named ∙ ap (is_among gs) (sym same) ∙ e in cc)

module _ (lifts : List GroupRow) (are : AreLifts lifts) where
  abbrev named : ℕ → Bool
  named g = is_among (group_numbers lifts) g

  each_named : list_all (λ l. named l.group) lifts ≡ true
  each_named = own_named named lifts (λ g e. e)

  module _ (i : ℕ) (lift : GroupRow) (within : i < length lifts) (is : lift ≡ get_or lifts i lift) where
    pub named_at : named lift.group ≡ true
    named_at = ap (λ (l : GroupRow). named l.group) is ∙ all_at (λ l. named l.group) lifts each_named i lift within

    pub clear_at : (g : ℕ) → named g ≡ true → is_just g lift.master ≡ false
    clear_at g there =
        go lift.master (ap (λ (l : GroupRow). is_one_of (group_numbers lifts) l.master) is ∙
        false_where_not _ (all_at (λ l. not (is_one_of (group_numbers lifts) l.master)) lifts are.clear i lift within))
      where
        go : (o : Option ℕ) → is_one_of (group_numbers lifts) o ≡ false → is_just g o ≡ false
        go None e = refl
        go (Some h) e = ne_eqb h g (λ same. let bad : true ≡ false = sym there ∙ ap named (sym same) ∙ e in cc)

    -- it is not among its own followers' masters
    pub other_at : is_just lift.group lift.master ≡ false
    other_at = clear_at lift.group named_at

    pub master_at : lift.master ≡ lift_in lifts (Some lift.group)
    master_at =
        ap (λ (l : GroupRow). l.master) is ∙ are.same i lift within ∙ ap (λ (l : GroupRow). lift_in lifts (Some l.group)) (sym is)

  -- the groups' own lists stay
  links_same : (k : ℕ) (old new : Index) → Links (take k lifts) old new → (g x : ℕ) → named g ≡ true → has new g x ≡ has old g x
  links_same k old new links g x there =
      links.has g x ∙
      ap (λ (b : Bool). has old g x || b)
      (gets_none (group_numbers lifts) old (take k lifts) (all_take (λ l. not (is_one_of (group_numbers lifts) l.master)) k lifts are.clear) g there x) ∙
      or_false (has old g x)

  unlinks_same : (k : ℕ) (old new : Index) → Unlinks (take k lifts) old new → (g x : ℕ) → named g ≡ true → has new g x ≡ has old g x
  unlinks_same k old new links g x there =
      links.has g x ∙
      ap (λ (b : Bool). has old g x && not b)
      (gets_none (group_numbers lifts) old (take k lifts) (all_take (λ l. not (is_one_of (group_numbers lifts) l.master)) k lifts are.clear) g there x) ∙
      and_true (has old g x)

  module _ (i : ℕ) (lift : GroupRow) (within : i < length lifts) (is : lift ≡ get_or lifts i lift) where
    pub links_more :
        (old mid new : Index) → Links (take i lifts) old mid → LinksOne lift mid new → Links (take (i + 1) lifts) old new
    links_more old mid new links one = record {
      rising = one.rising;
      has = λ n x.
          one.has n x ∙
          ap (λ (b : Bool). has mid n x || (is_just n lift.master && b)) (links_same i old mid links lift.group x (named_at i lift within is)) ∙
          ap (λ (b : Bool). b || gets_master old lift n x) (links.has n x) ∙
          either (has old n x) (gets_one old (take i lifts) n x) (gets_master old lift n x) ∙
          ap (λ (b : Bool). has old n x || b) (sym (any_more (λ l. gets_master old l n x) lifts i lift within is));
    }
      where
        either : (a b c : Bool) → ((a || b) || c) ≡ (a || (b || c))
        either true b c = refl
        either false b c = refl

    pub unlinks_more :
        (old mid new : Index) → Unlinks (take i lifts) old mid → UnlinksOne lift mid new → Unlinks (take (i + 1) lifts) old new
    unlinks_more old mid new links one = record {
      rising = one.rising;
      has = λ n x.
          one.has n x ∙
          ap (λ (b : Bool). has mid n x && not (is_just n lift.master && b)) (unlinks_same i old mid links lift.group x (named_at i lift within is)) ∙
          ap (λ (b : Bool). b && not (gets_master old lift n x)) (links.has n x) ∙
          neither (has old n x) (gets_one old (take i lifts) n x) (gets_master old lift n x) ∙
          ap (λ (b : Bool). has old n x && not b) (sym (any_more (λ l. gets_master old l n x) lifts i lift within is));
    }
      where
        neither : (a b c : Bool) → ((a && not b) && not c) ≡ (a && not (b || c))
        neither true true c = refl
        neither true false c = refl
        neither false b c = refl

    -- where one has no room, all are taken out
    pub links_back :
        (old mid same new : Index) → Links (take i lifts) old mid → UnlinksOne lift mid same → Unlinks lifts same new →
        Unlinks lifts old new
    links_back old mid same new links one all = record {
      rising = all.rising;
      has = λ n x.
          all.has n x ∙
          ap (λ (b : Bool). has same n x && not b) (gets_same named same old kept lifts each_named n x) ∙
          ap (λ (b : Bool). b && not (gets_one old lifts n x)) (one.has n x) ∙
          ap (λ (b : Bool). (has mid n x && not (is_just n lift.master && b)) && not (gets_one old lifts n x))
          (links_same i old mid links lift.group x (named_at i lift within is)) ∙
          ap (λ (b : Bool). (b && not (gets_master old lift n x)) && not (gets_one old lifts n x)) (links.has n x) ∙
          go (has old n x) (gets_one old (take i lifts) n x) refl (gets_master old lift n x) refl (gets_one old lifts n x)
          (any_take (λ l. gets_master old l n x) i lifts)
          (λ e. any_at (λ l. gets_master old l n x) lifts i lift within (ap (λ (l : GroupRow). gets_master old l n x) (sym is) ∙ e));
    }
      where
        kept : (g x : ℕ) → named g ≡ true → has same g x ≡ has old g x
        kept g x there =
            one.has g x ∙
            ap (λ (b : Bool). has mid g x && not (b && has mid lift.group x)) (clear_at i lift within is g there) ∙
            and_true (has mid g x) ∙ links_same i old mid links g x there

        go :
            {t u : Bool} (a b : Bool) → t ≡ b → (c : Bool) → u ≡ c → (d : Bool) → (t ≡ true → d ≡ true) → (u ≡ true → d ≡ true) →
            (((a || b) && not c) && not d) ≡ (a && not d)
        go a b e c f true into_b into_c = and_false ((a || b) && not c) ∙ sym (and_false a)
        go a true e c f false into_b into_c = let bad : false ≡ true = into_b e in absurd cc
        go a false e true f false into_b into_c = let bad : false ≡ true = into_c f in absurd cc
        go a false e false f false into_b into_c = ap (λ (b : Bool). (b && true) && true) (or_false a) ∙ and_true (a && true)

  whole : (old new : Index) (k : ℕ) → k ≡ length lifts → take k lifts ≡ lifts
  whole old new k all = ap (λ (n : ℕ). take n lifts) all ∙ take_all (length lifts) lifts (omega arith)

  pub all_links : (old new : Index) → Links lifts old new → Links (take (length lifts) lifts) old new
  all_links old new links = subst (λ (ls : List GroupRow). Links ls old new) (sym (whole old new (length lifts) refl)) links

  pub own_lists : (old new : Index) → Links lifts old new → (g x : ℕ) → named g ≡ true → has new g x ≡ has old g x
  own_lists old new links g x there = links_same (length lifts) old new (all_links old new links) g x there

  pub own_list : (old new : Index) → ListsRise old → Links lifts old new → (g : ℕ) → named g ≡ true → listed new g ≡ listed old g
  own_list old new rise links g there =
      same_held (listed new g) (listed old g) (links.rising g) (rise g) (λ x. own_lists old new links g x there)

  -- nothing was there of what is taken out
  pub unlinked : (old new : Index) → ListsRise old → AreApart lifts old → Unlinks lifts old new → SameLists old new
  unlinked old new rise apart links = λ n.
      same_held (listed new n) (listed old n) (links.rising n) (rise n) (λ x.
      links.has n x ∙ go (has old n x) (gets_one old lifts n x) (apart n x))
    where
      go : (a b : Bool) → (a && b) ≡ false → (a && not b) ≡ a
      go true true e = absurd cc
      go true false e = refl
      go false b e = refl

  pub linked_back :
      (old mid same new : Index) → ListsRise old → AreApart lifts old → Links lifts old mid → SameLists mid same → Unlinks lifts same new →
      SameLists old new
  linked_back old mid same new rise apart links equal back = unlinked old new rise apart (record {
    rising = back.rising;
    has = λ n x.
        back.has n x ∙
        ap (λ (xs : List ℕ). is_among xs x && not (gets_one same lifts n x)) (equal n) ∙
        ap (λ (b : Bool). has mid n x && not b)
        (gets_same named same old (λ g y there. ap (λ (xs : List ℕ). is_among xs y) (equal g) ∙ own_lists old mid links g y there) lifts each_named n x) ∙
        ap (λ (b : Bool). b && not (gets_one old lifts n x)) (links.has n x) ∙
        go (has old n x) (gets_one old lifts n x);
  })
    where
      go : (a b : Bool) → ((a || b) && not b) ≡ (a && not b)
      go true b = refl
      go false true = refl
      go false false = refl

  -- ---- rows

  -- what is given for a group
  given_of :
      (n h : ℕ) (ls : List GroupRow) →
      ((i : ℕ) (d : GroupRow) → i < length ls → (get_or ls i d).master ≡ lift_in lifts (Some (get_or ls i d).group)) →
      list_any (λ l. is_just n l.master && is_just l.group (Some h)) ls ≡ (is_among (group_numbers ls) h && is_just n (lift_in lifts (Some h)))
  given_of n h [] same = refl
  given_of n h (l ∷ ls) same =
      ap (λ (b : Bool). (is_just n l.master && (h == l.group)) || b) (given_of n h ls (λ i d within. same (suc i) d (omega arith))) ∙
      go (l.group == h) refl
    where
      rest : Bool
      rest = is_among (group_numbers ls) h

      both : (a b : Bool) → ((a && true) || (b && a)) ≡ a
      both true b = refl
      both false true = refl
      both false false = refl

      go :
          (b : Bool) → (l.group == h) ≡ b →
          ((is_just n l.master && (h == l.group)) || (rest && is_just n (lift_in lifts (Some h)))) ≡
          ((b || rest) && is_just n (lift_in lifts (Some h)))
      go true e =
          let is : l.group ≡ h = eqb-true l.group h e in
          ap (λ (b : Bool). (is_just n l.master && b) || (rest && is_just n (lift_in lifts (Some h)))) (eq-eqb h l.group (sym is)) ∙
          ap (λ (o : Option ℕ). (is_just n o && true) || (rest && is_just n (lift_in lifts (Some h))))
          (same 0 l (omega arith) ∙ ap (λ (g : ℕ). lift_in lifts (Some g)) is) ∙
          both (is_just n (lift_in lifts (Some h))) rest
      go false e =
          ap (λ (b : Bool). (is_just n l.master && b) || (rest && is_just n (lift_in lifts (Some h)))) (equal_either_way h l.group ∙ e) ∙
          ap (λ (b : Bool). b || (rest && is_just n (lift_in lifts (Some h)))) (and_false (is_just n l.master))

  lift_other : (h : ℕ) (ls : List GroupRow) → is_among (group_numbers ls) h ≡ false → lift_in ls (Some h) ≡ Some h
  lift_other h [] e = refl
  lift_other h (l ∷ ls) e = go (l.group == h) refl e (lift_other h ls)
    where
      go :
          (b : Bool) → (l.group == h) ≡ b → (b || is_among (group_numbers ls) h) ≡ false →
          (is_among (group_numbers ls) h ≡ false → lift_in ls (Some h) ≡ Some h) →
          cond (h == l.group) l.master (lift_in ls (Some h)) ≡ Some h
      go true f e ih = absurd cc
      go false f e ih = rw (equal_either_way h l.group ∙ f) (ih e)

  -- what is given is none of the groups
  given_clear : (ls : List GroupRow) → list_all (λ l. not (is_one_of (group_numbers lifts) l.master)) ls ≡ true →
      (h : ℕ) → is_among (group_numbers ls) h ≡ true → (n : ℕ) → named n ≡ true → is_just n (lift_in ls (Some h)) ≡ false
  given_clear [] all h there n e = absurd cc
  given_clear (l ∷ ls) all h there n e = go (l.group == h) refl there (given_clear ls (right_of_and _ _ all) h)
    where
      no : (o : Option ℕ) → is_one_of (group_numbers lifts) o ≡ false → is_just n o ≡ false
      no None f = refl
      no (Some k) f = ne_eqb k n (λ same. let bad : true ≡ false = sym e ∙ ap named (sym same) ∙ f in cc)

      go :
          (b : Bool) → (l.group == h) ≡ b → (b || is_among (group_numbers ls) h) ≡ true →
          (is_among (group_numbers ls) h ≡ true → (k : ℕ) → named k ≡ true → is_just k (lift_in ls (Some h)) ≡ false) →
          is_just n (cond (h == l.group) l.master (lift_in ls (Some h))) ≡ false
      go true f there ih =
          rw (equal_either_way h l.group ∙ f)
          (no l.master (false_where_not (is_one_of (group_numbers lifts) l.master) (left_of_and _ _ all)))
      go false f there ih = rw (equal_either_way h l.group ∙ f) (ih there n e)

  module _ {R : Type 0} (number : R → ℕ) (master : R → Option ℕ) where
    abbrev under : ℕ → R → Bool
    under n r = is_just n (master r)

    -- the followers by their rows
    gets_where :
        (rows : List R) → RiseBy number 0 rows → (old : Index) → IsIndexOf number under rows old → (n x : ℕ) →
        gets_one old lifts n x ≡ passes (λ r. list_any (λ l. is_just n l.master && under l.group r) lifts) (row_of number rows x)
    gets_where rows rises old o n x = go lifts (row_of number rows x) refl
      where
        go :
            (ls : List GroupRow) (row : Option R) → row_of number rows x ≡ row →
            gets_one old ls n x ≡ passes (λ r. list_any (λ l. is_just n l.master && under l.group r) ls) row
        go [] None e = refl
        go [] (Some r) e = refl
        go (l ∷ ls) None e =
            ap (λ (b : Bool). (is_just n l.master && b) || gets_one old ls n x)
            (ap (λ (xs : List ℕ). is_among xs x) (o l.group) ∙ among_numbered number (under l.group) 0 rows rises x ∙ ap (passes (under l.group)) e) ∙
            ap (λ (b : Bool). b || gets_one old ls n x) (and_false (is_just n l.master)) ∙ go ls None e
        go (l ∷ ls) (Some r) e =
            ap (λ (b : Bool). (is_just n l.master && b) || gets_one old ls n x)
            (ap (λ (xs : List ℕ). is_among xs x) (o l.group) ∙ among_numbered number (under l.group) 0 rows rises x ∙ ap (passes (under l.group)) e) ∙
            ap (λ (b : Bool). (is_just n l.master && under l.group r) || b) (go ls (Some r) e)

    given_row :
        (n : ℕ) (o : Option ℕ) →
        list_any (λ l. is_just n l.master && is_just l.group o) lifts ≡ (is_one_of (group_numbers lifts) o && is_just n (lift_in lifts o))
    given_row n None = none lifts
      where
        none : (ls : List GroupRow) → list_any (λ l. is_just n l.master && false) ls ≡ false
        none [] = refl
        none (l ∷ ls) = rw (and_false (is_just n l.master)) (none ls)
    given_row n (Some h) = given_of n h lifts are.same

    pub apart : (rows : List R) → RiseBy number 0 rows → (old : Index) → IsIndexOf number under rows old → AreApart lifts old
    apart rows rises old o n x =
        ap (λ (b : Bool). b && gets_one old lifts n x)
        (ap (λ (xs : List ℕ). is_among xs x) (o n) ∙ among_numbered number (under n) 0 rows rises x) ∙
        ap (λ (b : Bool). passes (under n) (row_of number rows x) && b) (gets_where rows rises old o n x) ∙
        go (row_of number rows x)
      where
        no : (o : Option ℕ) → (is_just n o && (is_one_of (group_numbers lifts) o && is_just n (lift_in lifts o))) ≡ false
        no None = refl
        no (Some h) = at (h == n) refl (named h) refl
          where
            at : (a : Bool) → (h == n) ≡ a → (b : Bool) → named h ≡ b → (a && (b && is_just n (lift_in lifts (Some h)))) ≡ false
            at false e b f = refl
            at true e false f = refl
            at true e true f =
                let is : h ≡ n = eqb-true h n e in
                given_clear lifts are.clear h f n (ap named (sym is) ∙ f)

        go : (o : Option R) → (passes (under n) o && passes (λ r. list_any (λ l. is_just n l.master && under l.group r) lifts) o) ≡ false
        go None = refl
        go (Some r) = ap (λ (b : Bool). is_just n (master r) && b) (given_row n (master r)) ∙ no (master r)

    -- the rows with their new masters, where the groups' lists are given up
    pub lifted_index :
        (lift : R → R) → ((r : R) → number (lift r) ≡ number r) → ((r : R) → master (lift r) ≡ lift_in lifts (master r)) →
        (rows : List R) → RiseBy number 0 rows → RiseBy number 0 (map lift rows) → (old mid new : Index) → IsIndexOf number under rows old →
        Links lifts old mid → DropsAll lifts mid new → IsIndexOf number under (map lift rows) new
    lifted_index lift same lifted rows rises after old mid new o links drops n =
        drops n ∙
        same_held (cond (named n) [] (listed mid n)) (numbered number (under n) (map lift rows)) (up (named n))
        (where_up n) (λ x.
        cut (named n) x ∙
        ap (λ (b : Bool). not (named n) && b) (links.has n x) ∙
        ap (λ (b : Bool). not (named n) && (b || gets_one old lifts n x))
        (ap (λ (xs : List ℕ). is_among xs x) (o n) ∙ among_numbered number (under n) 0 rows rises x) ∙
        ap (λ (b : Bool). not (named n) && (passes (under n) (row_of number rows x) || b)) (gets_where rows rises old o n x) ∙
        go (row_of number rows x) ∙
        ap (passes (under n)) (sym (find_map_same number x lift same rows)) ∙
        sym (among_numbered number (under n) 0 (map lift rows) after x))
      where
        up : (b : Bool) → IsStrictlyIncreasing (cond b [] (listed mid n))
        up true = up_rises 0 [] tt
        up false = links.rising n

        where_up : (k : ℕ) → IsStrictlyIncreasing (numbered number (under k) (map lift rows))
        where_up k = where_rises number (under k) (map lift rows) after

        cut : (b : Bool) (x : ℕ) → is_among (cond b [] (listed mid n)) x ≡ (not b && has mid n x)
        cut true x = refl
        cut false x = refl

        row : (m : Option ℕ) → (not (named n) && (is_just n m || (is_one_of (group_numbers lifts) m && is_just n (lift_in lifts m)))) ≡ is_just n (lift_in lifts m)
        row None = and_false (not (named n)) ∙ sym (none lifts)
          where
            none : (ls : List GroupRow) → is_just n (lift_in ls None) ≡ false
            none [] = refl
            none (l ∷ ls) = none ls
        row (Some h) = at (named h) refl (named n) refl (h == n) refl
          where
            at :
                (a : Bool) → named h ≡ a → (b : Bool) → named n ≡ b → (c : Bool) → (h == n) ≡ c →
                (not b && (c || (a && is_just n (lift_in lifts (Some h))))) ≡ is_just n (lift_in lifts (Some h))
            at true e true f c g = sym (given_clear lifts are.clear h e n f)
            at true e false f true g =
                let bad : true ≡ false = sym e ∙ ap named (eqb-true h n g) ∙ f in
                absurd cc
            at true e false f false g = refl
            at false e true f true g =
                let bad : false ≡ true = sym e ∙ ap named (eqb-true h n g) ∙ f in
                absurd cc
            at false e true f false g = sym (ap (is_just n) (lift_other h lifts e) ∙ g)
            at false e false f c g = or_false c ∙ sym (ap (is_just n) (lift_other h lifts e) ∙ g)

        go :
            (r : Option R) →
            (not (named n) && (passes (under n) r || passes (λ y. list_any (λ l. is_just n l.master && under l.group y) lifts) r)) ≡
            passes (under n) (option_map lift r)
        go None = and_false (not (named n))
        go (Some r) =
            ap (λ (b : Bool). not (named n) && (is_just n (master r) || b)) (given_row n (master r)) ∙ row (master r) ∙
            ap (is_just n) (sym (lifted r))

    -- ---- the rows of one group after another
    module _ (to : Option ℕ → R → R) (numbers_stay : (o : Option ℕ) (r : R) → number (to o r) ≡ number r) (twice : (o : Option ℕ) (r : R) → to o (to o r) ≡ to o r) where
      abbrev lift_row : R → R
      lift_row r = to (lift_in lifts (master r)) r

      -- those of the first groups have their new masters
      abbrev lift_first : ℕ → R → R
      lift_first k r = lifts_first master to lifts k r

      pub first_none : (rows : List R) → rows ≡ map (lift_first 0) rows
      first_none [] = refl
      first_none (r ∷ rows) = go (master r) (first_none rows)
        where
          go : (o : Option ℕ) → rows ≡ map (lift_first 0) rows → r ∷ rows ≡ cond (is_one_of [] o) (lift_row r) r ∷ map (lift_first 0) rows
          go None ih = ap (λ (xs : List R). r ∷ xs) ih
          go (Some h) ih = ap (λ (xs : List R). r ∷ xs) ih

      first_keeps : (k : ℕ) (r : R) → number (lift_first k r) ≡ number r
      first_keeps k r = go (is_one_of (group_numbers (take k lifts)) (master r))
        where
          go : (b : Bool) → number (cond b (lift_row r) r) ≡ number r
          go true = numbers_stay (lift_in lifts (master r)) r
          go false = refl

      pub first_rises : (low k : ℕ) (rows : List R) → RiseBy number low rows → RiseBy number low (map (lift_first k) rows)
      first_rises low k [] rises = tt
      first_rises low k (r ∷ rows) rises = (
        subst (λ (n : ℕ). low ≤ n) (sym (first_keeps k r)) rises.0,
        subst (λ (n : ℕ). RiseBy number (n + 1) (map (lift_first k) rows)) (sym (first_keeps k r)) (first_rises (number r + 1) k rows rises.1),
      )

      numbers_more : (i : ℕ) (lift : GroupRow) → i < length lifts → lift ≡ get_or lifts i lift → (o : Option ℕ) →
          is_one_of (group_numbers (take (i + 1) lifts)) o ≡ (is_one_of (group_numbers (take i lifts)) o || is_just lift.group o)
      numbers_more i lift within is None = refl
      numbers_more i lift within is (Some h) =
          by_any h (take (i + 1) lifts) ∙ any_more (λ l. l.group == h) lifts i lift within is ∙
          ap (λ (b : Bool). b || (lift.group == h)) (sym (by_any h (take i lifts))) ∙
          ap (λ (b : Bool). is_among (group_numbers (take i lifts)) h || b) (equal_either_way lift.group h)
        where
          by_any : (h : ℕ) (ls : List GroupRow) → is_among (group_numbers ls) h ≡ list_any (λ l. l.group == h) ls
          by_any h [] = refl
          by_any h (l ∷ ls) = ap (λ (b : Bool). (l.group == h) || b) (by_any h ls)

      pub first_more :
          (i : ℕ) (lift : GroupRow) → i < length lifts → lift ≡ get_or lifts i lift → (old : List R) → RiseBy number 0 old →
          (list : List ℕ) → list ≡ numbered number (under lift.group) old → (mid new : List R) → mid ≡ map (lift_first i) old →
          new ≡ map (changed_where number (to lift.master) list) mid → new ≡ map (lift_first (i + 1)) old
      first_more i lift within is old rises list listed_is mid new was next =
          next ∙ ap (map (changed_where number (to lift.master) list)) was ∙
          map_twice (changed_where number (to lift.master) list) (lift_first i) old ∙
          map_there number (λ r. changed_where number (to lift.master) list (lift_first i r)) (lift_first (i + 1)) 0 old rises step
        where
          map_twice : (f g : R → R) (rows : List R) → map f (map g rows) ≡ map (λ r. f (g r)) rows
          map_twice f g [] = refl
          map_twice f g (r ∷ rows) = ap (λ (xs : List R). f (g r) ∷ xs) (map_twice f g rows)

          its_own : (r : R) → is_just lift.group (master r) ≡ true → lift.master ≡ lift_in lifts (master r)
          its_own r e = master_at i lift within is ∙ ap (lift_in lifts) (go (master r) e)
            where
              go : (o : Option ℕ) → is_just lift.group o ≡ true → Some lift.group ≡ o
              go None e = absurd cc
              go (Some h) e = ap Some (sym (eqb-true h lift.group e))

          step : (r : R) → row_of number old (number r) ≡ Some r → changed_where number (to lift.master) list (lift_first i r) ≡ lift_first (i + 1) r
          step r there =
              ap (λ (n : ℕ). cond (is_among list n) (to lift.master (lift_first i r)) (lift_first i r)) (first_keeps i r) ∙
              ap (λ (b : Bool). cond b (to lift.master (lift_first i r)) (lift_first i r))
              (ap (λ (xs : List ℕ). is_among xs (number r)) listed_is ∙ among_numbered number (under lift.group) 0 old rises (number r) ∙ ap (passes (under lift.group)) there) ∙
              go (is_just lift.group (master r)) refl (is_one_of (group_numbers (take i lifts)) (master r)) ∙
              ap (λ (b : Bool). cond b (lift_row r) r) (sym (numbers_more i lift within is (master r)))
            where
              go :
                  (b : Bool) → is_just lift.group (master r) ≡ b → (a : Bool) →
                  cond b (to lift.master (cond a (lift_row r) r)) (cond a (lift_row r) r) ≡ cond (a || b) (lift_row r) r
              go true e true =
                  ap (λ (o : Option ℕ). to lift.master (to o r)) (sym (its_own r e)) ∙ twice lift.master r ∙
                  ap (λ (o : Option ℕ). to o r) (its_own r e)
              go true e false = ap (λ (o : Option ℕ). to o r) (its_own r e)
              go false e true = refl
              go false e false = refl

      pub first_all : (k : ℕ) → k ≡ length lifts → (rows : List R) → ((r : R) → to (master r) r ≡ r) → map (lift_first k) rows ≡ map lift_row rows
      first_all k all [] stay = refl
      first_all k all (r ∷ rows) stay =
          ap (λ (xs : List R). lift_first k r ∷ xs) (first_all k all rows stay) ∙
          ap (λ (x : R). x ∷ map lift_row rows)
          (ap (λ (ls : List GroupRow). cond (is_one_of (group_numbers ls) (master r)) (lift_row r) r)
          (ap (λ (n : ℕ). take n lifts) all ∙ take_all (length lifts) lifts (omega arith)) ∙
          go (master r) refl)
        where
          none : (ls : List GroupRow) → lift_in ls None ≡ None
          none [] = refl
          none (l ∷ ls) = none ls

          go : (o : Option ℕ) → master r ≡ o → cond (is_one_of (group_numbers lifts) (master r)) (lift_row r) r ≡ lift_row r
          go None e = rw e (sym (ap (λ (p : Option ℕ). to p r) (none lifts ∙ sym e) ∙ stay r))
          go (Some h) e = at (named h) refl
            where
              at : (b : Bool) → named h ≡ b → cond (is_one_of (group_numbers lifts) (master r)) (lift_row r) r ≡ lift_row r
              at true f = ap (λ (o : Option ℕ). cond (is_one_of (group_numbers lifts) o) (lift_row r) r) e ∙ rw f refl
              at false f =
                  ap (λ (o : Option ℕ). cond (is_one_of (group_numbers lifts) o) (lift_row r) r) e ∙
                  ap (λ (b : Bool). cond b (lift_row r) r) f ∙
                  sym (ap (λ (o : Option ℕ). to (lift_in lifts o) r) e ∙ ap (λ (o : Option ℕ). to o r) (lift_other h lifts f ∙ sym e) ∙ stay r)
