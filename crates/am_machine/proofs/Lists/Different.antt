-- Lists whose rows are looked up by a number, and have different ones.
use Rattle.std.proofs.Common.{◌≡◌, ℕ, Bool, true, false, cond, ◌==◌, List, [], ◌∷◌, ◌++◌, map, Option, Some, None, refl, sym, ap, subst, ◌∙◌}
use Rattle.std.specs.Prelude.{not, filter, find, is_some, ◌||◌}
use Rattle.std.specs.Option.{option_map}
use Rattle.std.specs.List.{All}
use Rattle.std.proofs.lemmas.List.Elements.{All-head, All-tail, All-nil, All-cons}
use Rattle.am_names.proofs.Basics.{neither_of_or, differ_the_other_way, equal_by_test}
use Rattle.am_wait.proofs.FindLemmas.{or_first, find_append}
use Rattle.am_machine.specs.{has, AreDifferent}

pub true_is_not_false : (b : Bool) → b ≡ true → b ≡ false → ⊥
true_is_not_false b h g = cc

-- the first is the third, which isn't the second
pub differ_as_the_third : (a n t : ℕ) → (a == t) ≡ true → (n == t) ≡ false → not (a == n) ≡ true
differ_as_the_third a n t is other = ap not (subst (λ (m : ℕ). (m == n) ≡ false) (sym (equal_by_test a t is)) (differ_the_other_way n t other))

-- ---- what is found

module _ {X : Type 0} where
  all_by_cases : (P : X → Type 0) (test : X → Bool) (x row : X) (rows : List X) (b : Bool) → P x → (find test rows ≡ Some row → P row) → cond b (Some x) (find test rows) ≡ Some row → P row
  all_by_cases P test x row rows true here later e = let same : x ≡ row = cc in subst P same here
  all_by_cases P test x row rows false here later e = later e

  -- what is found is one of them
  pub all_found : (P : X → Type 0) (test : X → Bool) (rows : List X) (row : X) → All P rows → find test rows ≡ Some row → P row
  all_found P test [] row h e = absurd cc
  all_found P test (x ∷ rows) row h e =
      all_by_cases P test x row rows (test x) (All-head P x rows h) (all_found P test rows row (All-tail P x rows h)) e

  none_by_cases : (test other : X → Bool) (x row : X) (rows : List X) (b c : Bool) → test x ≡ b → (find test rows ≡ None → find other rows ≡ Some row → test row ≡ false) → cond b (Some x) (find test rows) ≡ None → cond c (Some x) (find other rows) ≡ Some row → test row ≡ false
  none_by_cases test other x row rows true c t later e f = absurd cc
  none_by_cases test other x row rows false true t later e f = let same : x ≡ row = cc in subst (λ (y : X). test y ≡ false) same t
  none_by_cases test other x row rows false false t later e f = later e f

  -- where a test finds none, what is found by another fails it
  pub found_none : (test other : X → Bool) (rows : List X) (row : X) → find test rows ≡ None → find other rows ≡ Some row → test row ≡ false
  found_none test other [] row e f = absurd cc
  found_none test other (x ∷ rows) row e f = none_by_cases test other x row rows (test x) (other x) refl (found_none test other rows row) e f

  each_by_cases : (P Q : X → Type 0) (keep : X → Bool) (x : X) (others : List X) (b : Bool) → (b ≡ true → P x → Q x) → P x → All Q others → All Q (cond b (x ∷ others) others)
  each_by_cases P Q keep x others true more here later = All-cons Q x others (more refl here) later
  each_by_cases P Q keep x others false more here later = later

  -- each row that is kept stays what it is
  pub each_kept : (P Q : X → Type 0) (keep : X → Bool) (rows : List X) → ((x : X) → keep x ≡ true → P x → Q x) → All P rows → All Q (filter keep rows)
  each_kept P Q keep [] more h = All-nil Q
  each_kept P Q keep (x ∷ rows) more h =
      each_by_cases P Q keep x (filter keep rows) (keep x) (more x) (All-head P x rows h) (each_kept P Q keep rows more (All-tail P x rows h))

-- the same of two options, seen by f
pub mapped_some : {X Y : Type 0} (f : X → Y) (o p : Option X) (x : X) → option_map f p ≡ option_map f o → o ≡ Some x → (y : X) × (p ≡ Some y) × (f y ≡ f x)
mapped_some f None p x e is = absurd cc
mapped_some f (Some z) None x e is = absurd cc
mapped_some f (Some z) (Some y) x e is = let same : z ≡ x = cc in (y, refl, (let g : f y ≡ f z = cc in g ∙ ap f same))

pub mapped_none : {X Y : Type 0} (f : X → Y) (o p : Option X) → option_map f p ≡ option_map f o → o ≡ None → p ≡ None
mapped_none f (Some z) p e is = absurd cc
mapped_none f None (Some y) e is = absurd cc
mapped_none f None None e is = refl

-- ---- numbers

module _ {X : Type 0} (key : X → ℕ) where
  has_by_cases : (b c : Bool) (x : X) (o : Option X) → c ≡ is_some o → (b || c) ≡ is_some (cond b (Some x) o)
  has_by_cases true c x o e = refl
  has_by_cases false c x o e = e

  -- a number is among those of the rows just where a row of it is found
  pub has_is : (k : ℕ) (rows : List X) → has k (map key rows) ≡ is_some (find (λ x. key x == k) rows)
  has_is k [] = refl
  has_is k (x ∷ rows) = has_by_cases (key x == k) (has k (map key rows)) x (find (λ y. key y == k) rows) (has_is k rows)

  none_first : (b : Bool) (x : X) (o : Option X) → cond b (Some x) o ≡ None → (b ≡ false) × (o ≡ None)
  none_first true x o e = absurd cc
  none_first false x o e = (refl, e)

  or_last : (o : Option X) (b : Bool) (x : X) → is_some o ≡ false → b ≡ false → is_some (or_first o (cond b (Some x) None)) ≡ false
  or_last None true x h e = absurd cc
  or_last None false x h e = refl
  or_last (Some y) b x h e = absurd cc

  -- one more row, of a number that is new
  pub differ_push : (rows : List X) (x : X) → AreDifferent (map key rows) → find (λ y. key y == key x) rows ≡ None → AreDifferent (map key (rows ++ x ∷ []))
  differ_push [] x h none = (refl, tt)
  differ_push (y ∷ rows) x h none =
      let both = none_first (key y == key x) y (find (λ z. key z == key x) rows) none in (
        has_is (key y) (rows ++ x ∷ [])
            ∙ ap is_some (find_append (λ (z : X). key z == key y) rows (x ∷ []))
            ∙ or_last (find (λ z. key z == key y) rows) (key x == key y) x (sym (has_is (key y) rows) ∙ h.0) (differ_the_other_way (key y) (key x) both.0),
        differ_push rows x h.1 both.1,
      )

  fewer_by_cases : (k : ℕ) (x : X) (others : List X) (b c : Bool) → (key x == k) ≡ c → has k (map key others) ≡ false → (c || false) ≡ false → has k (map key (cond b (x ∷ others) others)) ≡ false
  fewer_by_cases k x others true true e h g = absurd cc
  fewer_by_cases k x others true false e h g = rw e h
  fewer_by_cases k x others false c e h g = h

  has_filter : (keep : X → Bool) (k : ℕ) (rows : List X) → has k (map key rows) ≡ false → has k (map key (filter keep rows)) ≡ false
  has_filter keep k [] h = refl
  has_filter keep k (x ∷ rows) h =
      let both = neither_of_or (key x == k) (has k (map key rows)) h in
      fewer_by_cases k x (filter keep rows) (keep x) (key x == k) refl (has_filter keep k rows both.1) (ap (λ (b : Bool). b || false) both.0)

  differ_by_cases : (x : X) (others : List X) (b : Bool) → has (key x) (map key others) ≡ false → AreDifferent (map key others) → AreDifferent (map key (cond b (x ∷ others) others))
  differ_by_cases x others true h g = (h, g)
  differ_by_cases x others false h g = g

  -- and fewer rows
  pub differ_filter : (keep : X → Bool) (rows : List X) → AreDifferent (map key rows) → AreDifferent (map key (filter keep rows))
  differ_filter keep [] h = tt
  differ_filter keep (x ∷ rows) h = differ_by_cases x (filter keep rows) (keep x) (has_filter keep (key x) rows h.0) (differ_filter keep rows h.1)

-- ---- what is found, and isn't taken out

module _ {X : Type 0} (test keep : X → Bool) where
  stays_by_cases : (x row : X) (rows : List X) (b c : Bool) → test x ≡ b → keep x ≡ c → keep row ≡ true → (find test rows ≡ Some row → find test (filter keep rows) ≡ Some row) → cond b (Some x) (find test rows) ≡ Some row → find test (cond c (x ∷ filter keep rows) (filter keep rows)) ≡ Some row
  stays_by_cases x row rows true true t c h later e = rw t e
  stays_by_cases x row rows true false t c h later e = absurd (let same : x ≡ row = cc in let k : keep x ≡ true = ap keep same ∙ h in cc)
  stays_by_cases x row rows false true t c h later e = rw t (later e)
  stays_by_cases x row rows false false t c h later e = later e

  pub found_stays : (rows : List X) (row : X) → find test rows ≡ Some row → keep row ≡ true → find test (filter keep rows) ≡ Some row
  found_stays [] row e h = absurd cc
  found_stays (x ∷ rows) row e h = stays_by_cases x row rows (test x) (keep x) refl refl h (λ f. found_stays rows row f h) e
