-- The rows of the slots.
use Rattle.std.proofs.Common.{◌≡◌, ◌≢◌, ℕ, zero, suc, ◌-◌, ◌<◌, ◌≤◌, Bool, true, false, cond, List, [], ◌∷◌, ◌++◌, map, length, remove, slice_get, get_or, set, take, Option, Some, None, is_some, IsNone, inl, inr, ◌⊎◌, refl, sym, ap, subst, ◌∙◌, arith, Result, Ok, Err, IsOk, OnOk, OnErr}
use Rattle.std.specs.Cmp.{IsEquivalence}
use Rattle.std.specs.List.{filter_map, swap_remove, IsDistinct, AllByRecursion}
use Rattle.std.specs.Map.{keys_of, lookup, lookup_key}
use Rattle.std.specs.Option.{option_and_then, option_map}
use Rattle.std.proofs.lemmas.Bool.{eq-eqb, ne_eqb, cases_eq, cases_lt, false≢true, true≢false}
use Rattle.std.proofs.lemmas.List.Elements.{filter_map-append}
use Rattle.std.proofs.lemmas.List.{length_push, length-take, length-set, get_or-take, get_or-set_same, get_or-set_other}
use Rattle.std.proofs.lemmas.Option.{same_Some, none-some, slice_get_within, slice_get_past, slice_get-get_or}
use Rattle.indexmap.specs.IndexMap.{insert_entry, shift_remove_entry}
use Rattle.am_ordered.specs.{times, IsOrderOf, renamed, Slot}
use Rattle.am_ordered.specs.View.{row_of, row_at, rows_of}
use Rattle.am_ordered.proofs.OrderLemmas.{below_count, there_once, there_at, none_above, gone, removed_other}
use Rattle.am_ordered.proofs.RowLemmas.{same_rows, kept_rows, AllStand, row_is, rows_removed, OnlyAt, lookup_rows, lookup_none, removed_row, replaced_row, inserted_last, AreApart, distinct_rows}

-- what stands at an index below the length
pub standing : {X : Type 0} (xs : List X) (i : ℕ) → i < length xs → (x : X) × (slice_get xs i ≡ Some x)
standing [] i h = absurd (omega arith)
standing (x ∷ xs) zero h = (x, refl)
standing (x ∷ xs) (suc i) h = standing xs i (omega arith)

remove_past : {X : Type 0} (xs : List X) (i : ℕ) → length xs ≤ i → remove xs i ≡ xs
remove_past [] zero h = refl
remove_past [] (suc i) h = refl
remove_past (x ∷ xs) zero h = absurd (omega arith)
remove_past {X} (x ∷ xs) (suc i) h = ap (λ (ys : List X). x ∷ ys) (remove_past xs i (omega arith))

-- what stands at an index once one is added
push_below : {X : Type 0} (xs : List X) (y : X) (i : ℕ) → i < length xs → slice_get (xs ++ y ∷ []) i ≡ slice_get xs i
push_below [] y i h = absurd (omega arith)
push_below (x ∷ xs) y zero h = refl
push_below (x ∷ xs) y (suc i) h = push_below xs y i (omega arith)

push_at : {X : Type 0} (xs : List X) (y : X) → slice_get (xs ++ y ∷ []) (length xs) ≡ Some y
push_at [] y = refl
push_at (x ∷ xs) y = push_at xs y

-- what stands at an index once the last is in the place of another
swapped : {X : Type 0} (xs : List X) (p q n : ℕ) (x : X) → suc n ≡ length xs → p < length xs → q < length xs → q ≢ p → slice_get (swap_remove xs p x) (renamed n p q) ≡ slice_get xs q
swapped {X} xs p q n x long in_p in_q differs = by (cases_eq q n)
  where
    last : ℕ
    last = length xs - 1

    is_last : last ≡ n
    is_last = omega arith

    after : List X
    after = set xs p (get_or xs last x)

    shorter : length (take last after) ≡ last
    shorter = omega (arith, length-take last after, length-set xs p (get_or xs last x))

    by : (q ≡ n) ⊎ (q ≢ n) → slice_get (take last after) (renamed n p q) ≡ slice_get xs q
    by (inl e) =
        let below : p < last = omega (arith, is_last) in
        rw (eq-eqb q n e)
        (slice_get-get_or (take last after) p x (omega (arith, shorter))
        ∙ ap Some (get_or-take last after p x below ∙ get_or-set_same xs p (get_or xs last x) x in_p)
        ∙ ap (λ (k : ℕ). Some (get_or xs k x)) (is_last ∙ sym e)
        ∙ sym (slice_get-get_or xs q x in_q))
    by (inr e) =
        let below : q < last = omega (arith, is_last) in
        rw (ne_eqb q n e)
        (slice_get-get_or (take last after) q x (omega (arith, shorter))
        ∙ ap Some (get_or-take last after q x below ∙ get_or-set_other xs p q (get_or xs last x) x differs)
        ∙ sym (slice_get-get_or xs q x in_q))

module _ {K V : Type 0} where
  pub all_stand : (es : List (K × Slot V)) (order : List ℕ) → IsOrderOf (length es) order → AllStand (row_at es) order
  all_stand es order ok p there =
      let stands = standing es p (below_count (length es) order p ok there) in
      (row_of stands.0, ap (option_map row_of) stands.1)

  -- a row is that of a slot
  slot_of : (es : List (K × Slot V)) (p : ℕ) (row : K × V) → row_at es p ≡ Some row → (e : K × Slot V) × (slice_get es p ≡ Some e) × (row ≡ row_of e)
  slot_of es p row h = by (slice_get es p) refl
    where
      by : (o : Option (K × Slot V)) → slice_get es p ≡ o → (e : K × Slot V) × (slice_get es p ≡ Some e) × (row ≡ row_of e)
      by None k = absurd (none-some row (sym (ap (option_map row_of) k) ∙ h))
      by (Some e) k = (e, k, same_Some row (row_of e) (sym h ∙ ap (option_map row_of) k))

  -- the first slot whose key passes
  pub record IsFound (test : K → Bool) (es : List (K × Slot V)) (slot : Slot V) : Type 0 where
    pub place : ℕ
    pub entry : K × Slot V
    pub at : slice_get es place ≡ Some entry
    pub passes : test entry.0 ≡ true
    pub is : entry.1 ≡ slot

  pub found : (test : K → Bool) (es : List (K × Slot V)) (slot : Slot V) → lookup test es ≡ Some slot → IsFound test es slot
  found test [] slot h = absurd (none-some slot h)
  found test (e ∷ es) slot h = by (test e.0) refl (found test es slot)
    where
      by : (b : Bool) → test e.0 ≡ b → (lookup test es ≡ Some slot → IsFound test es slot) → IsFound test (e ∷ es) slot
      by true t later = record { place = 0; entry = e; at = refl; passes = t; is = same_Some e.1 slot (subst (λ (b : Bool). cond b (Some e.1) (lookup test es) ≡ Some slot) t h) }
      by false t later =
          let further = later (subst (λ (b : Bool). cond b (Some e.1) (lookup test es) ≡ Some slot) t h) in
          record { place = suc further.place; entry = further.entry; at = further.at; passes = further.passes; is = further.is }

  pub not_found : (test : K → Bool) (es : List (K × Slot V)) → lookup test es ≡ None → (p : ℕ) (e : K × Slot V) → slice_get es p ≡ Some e → test e.0 ≡ false
  not_found test [] h p e at = absurd (none-some e at)
  not_found test (x ∷ es) h p e at = by (test x.0) refl (not_found test es) p at
    where
      by : (b : Bool) → test x.0 ≡ b → (lookup test es ≡ None → (p : ℕ) (e : K × Slot V) → slice_get es p ≡ Some e → test e.0 ≡ false) → (p : ℕ) → slice_get (x ∷ es) p ≡ Some e → test e.0 ≡ false
      by true t later p at = absurd (none-some x.1 (sym (subst (λ (b : Bool). cond b (Some x.1) (lookup test es) ≡ None) t h)))
      by false t later zero at = ap (λ (y : K × Slot V). test y.0) (sym (same_Some x e at)) ∙ t
      by false t later (suc p) at = later (subst (λ (b : Bool). cond b (Some x.1) (lookup test es) ≡ None) t h) p e at

  module _ (eq : K → K → Bool) where
    apart_later : (x : K) (es : List (K × Slot V)) (q : ℕ) (y : K × Slot V) → AllByRecursion (λ key. eq x key ≡ false) (keys_of es) → slice_get es q ≡ Some y → eq x y.0 ≡ false
    apart_later x [] q y all at = absurd (none-some y at)
    apart_later x (e ∷ es) zero y all at = ap (λ (z : K × Slot V). eq x z.0) (sym (same_Some e y at)) ∙ all.0
    apart_later x (e ∷ es) (suc q) y all at = apart_later x es q y all.1 at

    apart_below : (es : List (K × Slot V)) (p q : ℕ) (x y : K × Slot V) → IsDistinct eq (keys_of es) → slice_get es p ≡ Some x → slice_get es q ≡ Some y → p < q → eq x.0 y.0 ≡ false
    unfolding IsDistinct
    apart_below [] p q x y unique at there h = absurd (none-some x at)
    apart_below (e ∷ es) zero zero x y unique at there h = absurd (omega arith)
    apart_below (e ∷ es) zero (suc q) x y unique at there h =
        subst (λ (z : K × Slot V). eq z.0 y.0 ≡ false) (same_Some e x at) (apart_later e.0 es q y unique.0 there)
    apart_below (e ∷ es) (suc p) zero x y unique at there h = absurd (omega arith)
    apart_below (e ∷ es) (suc p) (suc q) x y unique at there h = apart_below es p q x y unique.1 at there (omega arith)

    -- a slot that is there is written over
    insert_at : (key : K) (s : Slot V) (es : List (K × Slot V)) (p : ℕ) (e : K × Slot V) → slice_get es p ≡ Some e → eq key e.0 ≡ true → ((q : ℕ) (y : K × Slot V) → slice_get es q ≡ Some y → eq key y.0 ≡ true → q ≡ p) →
        (slice_get (insert_entry eq es key s) p ≡ Some (e.0, s)) × (((q : ℕ) → q ≢ p → slice_get (insert_entry eq es key s) q ≡ slice_get es q) × (length (insert_entry eq es key s) ≡ length es))
    insert_at key s [] p e at same only = absurd (none-some e at)
    insert_at key s (x ∷ es) zero e at same only =
        let is : x ≡ e = same_Some x e at in
        let passes : eq key x.0 ≡ true = ap (λ (y : K × Slot V). eq key y.0) is ∙ same in
        rw passes (ap (λ (y : K × Slot V). Some (y.0, s)) is, (others, refl))
      where
        others : (q : ℕ) → q ≢ 0 → slice_get ((x.0, s) ∷ es) q ≡ slice_get (x ∷ es) q
        others zero differs = absurd (differs refl)
        others (suc q) differs = refl
    insert_at key s (x ∷ es) (suc p) e at same only = by (eq key x.0) refl (insert_at key s es p e at same (λ q y there t. omega (arith, only (suc q) y there t)))
      where
        by : (b : Bool) → eq key x.0 ≡ b →
            (slice_get (insert_entry eq es key s) p ≡ Some (e.0, s)) × (((q : ℕ) → q ≢ p → slice_get (insert_entry eq es key s) q ≡ slice_get es q) × (length (insert_entry eq es key s) ≡ length es)) →
            (slice_get (insert_entry eq (x ∷ es) key s) (suc p) ≡ Some (e.0, s)) × (((q : ℕ) → q ≢ suc p → slice_get (insert_entry eq (x ∷ es) key s) q ≡ slice_get (x ∷ es) q) × (length (insert_entry eq (x ∷ es) key s) ≡ length (x ∷ es)))
        by true t later = absurd (omega (arith, only 0 x refl t))
        by false t later = rw t (later.0, (others, ap suc later.1.1))
          where
            others : (q : ℕ) → q ≢ suc p → slice_get (x ∷ insert_entry eq es key s) q ≡ slice_get (x ∷ es) q
            others zero differs = refl
            others (suc q) differs = later.1.0 q (λ (h : q ≡ p). differs (ap suc h))

    module _ (laws : IsEquivalence eq) (es : List (K × Slot V)) (unique : IsDistinct eq (keys_of es)) where
      slots_apart : (p q : ℕ) (x y : K × Slot V) → slice_get es p ≡ Some x → slice_get es q ≡ Some y → p ≢ q → eq x.0 y.0 ≡ false
      slots_apart p q x y at there differs = by (cases_lt p q)
        where
          by : (p < q) ⊎ (q ≤ p) → eq x.0 y.0 ≡ false
          by (inl l) = apart_below es p q x y unique at there l
          by (inr l) = laws.symm x.0 y.0 ∙ apart_below es q p y x unique there at (omega arith)

      rows_apart : AreApart eq (row_at es)
      rows_apart p q x y at there differs =
          let this = slot_of es p x at in
          let that = slot_of es q y there in
          ap (λ (z : K × V). eq z.0 y.0) this.2 ∙ ap (λ (z : K × V). eq this.0.0 z.0) that.2 ∙ slots_apart p q this.0 that.0 this.1 that.1 differs

      only_here : (key : K) (p : ℕ) (e : K × Slot V) → slice_get es p ≡ Some e → eq key e.0 ≡ true → OnlyAt (eq key) (row_at es) p (row_of e)
      only_here key p e at same = record {
        here = ap (option_map row_of) at;
        passes = same;
        only = λ q other there t. by q other there t (cases_eq q p);
      }
        where
          by : (q : ℕ) (other : K × V) → row_at es q ≡ Some other → eq key other.0 ≡ true → (q ≡ p) ⊎ (q ≢ p) → q ≡ p
          by q other there t (inl s) = s
          by q other there t (inr differs) =
              let that = slot_of es q other there in
              let apart : eq e.0 other.0 ≡ false = ap (λ (z : K × V). eq e.0 z.0) that.2 ∙ slots_apart p q e that.0 at that.1 (λ (s : p ≡ q). differs (sym s)) in
              absurd (true≢false (sym t ∙ laws.congr key e.0 other.0 same ∙ apart))

      only_slot : (key : K) (p : ℕ) (e : K × Slot V) → slice_get es p ≡ Some e → eq key e.0 ≡ true → (q : ℕ) (y : K × Slot V) → slice_get es q ≡ Some y → eq key y.0 ≡ true → q ≡ p
      only_slot key p e at same q y there t = (only_here key p e at same).only q (row_of y) (ap (option_map row_of) there) t

      module _ (order : List ℕ) (ok : IsOrderOf (length es) order) where
        few : (p : ℕ) → times p order ≤ 1
        few p = by (cases_lt p (length es))
          where
            by : (p < length es) ⊎ (length es ≤ p) → times p order ≤ 1
            by (inl l) = omega (arith, there_once (length es) order p ok l)
            by (inr l) = omega (arith, none_above (length es) order p ok l)

        pub distinct : IsDistinct eq (keys_of (rows_of es order))
        distinct = distinct_rows eq (row_at es) order rows_apart few

        pub lookup_is : (key : K) → lookup (eq key) (rows_of es order) ≡ option_map (λ (s : Slot V). s.value) (lookup (eq key) es)
        lookup_is key = by (lookup (eq key) es) refl
          where
            by : (o : Option (Slot V)) → lookup (eq key) es ≡ o → lookup (eq key) (rows_of es order) ≡ option_map (λ (s : Slot V). s.value) (lookup (eq key) es)
            by None h = rw h (lookup_none (eq key) (row_at es) order (λ q other there. none q other (slot_of es q other there)))
              where
                none : (q : ℕ) (other : K × V) → (e : K × Slot V) × (slice_get es q ≡ Some e) × (other ≡ row_of e) → eq key other.0 ≡ false
                none q other s = ap (λ (z : K × V). eq key z.0) s.2 ∙ not_found (eq key) es h q s.0 s.1
            by (Some slot) h =
                let f = found (eq key) es slot h in
                let there : times f.place order ≡ 1 = there_once (length es) order f.place ok (slice_get_within es f.place f.entry f.at) in
                rw h (lookup_rows (eq key) (row_at es) f.place (row_of f.entry) order (only_here key f.place f.entry f.at f.passes) (omega arith) ∙ ap (λ (s : Slot V). Some s.value) f.is)

        -- the row of a key goes
        pub key_removed : (key : K) (i p : ℕ) (e : K × Slot V) → slice_get order i ≡ Some p → slice_get es p ≡ Some e → eq key e.0 ≡ true → remove (rows_of es order) i ≡ shift_remove_entry (eq key) (rows_of es order)
        key_removed key i p e listed at same =
            sym (rows_removed (row_at es) order i (all_stand es order ok))
            ∙ removed_row (eq key) (row_at es) p (row_of e) order i (only_here key p e at same) listed (there_once (length es) order p ok (slice_get_within es p e at))

        -- a key that is there takes a value, in its slot
        pub replaced : (key : K) (s slot : Slot V) → lookup (eq key) es ≡ Some slot → (rows_of (insert_entry eq es key s) order ≡ insert_entry eq (rows_of es order) key s.value) × (length (insert_entry eq es key s) ≡ length es)
        replaced key s slot h =
            let f = found (eq key) es slot h in
            let at = insert_at key s es f.place f.entry f.at f.passes (only_slot key f.place f.entry f.at f.passes) in
            (replaced_row eq key s.value (row_at es) (row_at (insert_entry eq es key s)) f.place (row_of f.entry) order (only_here key f.place f.entry f.at f.passes) (ap (option_map row_of) at.0) (λ q differs. ap (option_map row_of) (at.1.0 q differs)) (there_once (length es) order f.place ok (slice_get_within es f.place f.entry f.at)), at.1.1)

        -- a new key has the last slot
        pub appended : (key : K) (s : Slot V) → lookup (eq key) es ≡ None → (rows_of (insert_entry eq es key s) (order ++ length es ∷ []) ≡ rows_of es order ++ (key, s.value) ∷ []) × (length (insert_entry eq es key s) ≡ suc (length es))
        appended key s none =
            let more : List (K × Slot V) = es ++ (key, s) ∷ [] in
            let is : insert_entry eq es key s ≡ more = inserted_last eq key s es none in
            let before : filter_map (row_at more) order ≡ rows_of es order = kept_rows (row_at es) (row_at more) order (λ p there. ap (option_map row_of) (push_below es (key, s) p (below_count (length es) order p ok there))) in
            let last : row_at more (length es) ≡ Some (key, s.value) = ap (option_map row_of) (push_at es (key, s)) in
            rw is (filter_map-append (row_at more) order (length es ∷ []) ∙ rw (before, last) refl, length_push es (key, s) ∙ omega arith)

        -- the slot of an index goes, and the last is in its place
        pub removed : (i p n : ℕ) (e : K × Slot V) → suc n ≡ length es → slice_get order i ≡ Some p → slice_get es p ≡ Some e → rows_of (swap_remove es p e) (map (renamed n p) (remove order i)) ≡ remove (rows_of es order) i
        removed i p n e long listed at =
            same_rows (row_at es) (row_at (swap_remove es p e)) (renamed n p) (remove order i) (λ q there. ap (option_map row_of) (here q there))
            ∙ rows_removed (row_at es) order i (all_stand es order ok)
          where
            apart : (q : ℕ) → 0 < times q (remove order i) → q ≢ p
            apart q there s = omega (arith, subst (λ (r : ℕ). 0 < times r (remove order i)) s there, gone (length es) order i p ok listed)

            here : (q : ℕ) → 0 < times q (remove order i) → slice_get (swap_remove es p e) (renamed n p q) ≡ slice_get es q
            here q there =
                let differs : q ≢ p = apart q there in
                let was : times q order ≡ times q (remove order i) = removed_other order i p q listed (λ (s : p ≡ q). differs (sym s)) in
                swapped es p q n e long (slice_get_within es p e at) (below_count (length es) order q ok (omega arith)) differs

        -- each place that is listed has a slot
        pub has_slot : (i p : ℕ) → slice_get order i ≡ Some p → slice_get es p ≡ None → ⊥
        has_slot i p listed none =
            let stands = standing es p (below_count (length es) order p ok (there_at order i p listed)) in
            none-some stands.0 (sym none ∙ stands.1)

        pub row_listed : (i p : ℕ) → slice_get order i ≡ Some p → slice_get (rows_of es order) i ≡ row_at es p
        row_listed i p listed = row_is (row_at es) order i (all_stand es order ok) ∙ ap (option_and_then (row_at es)) listed

        pub row_past : (i : ℕ) → length order ≤ i → slice_get (rows_of es order) i ≡ None
        row_past i past = row_is (row_at es) order i (all_stand es order ok) ∙ ap (option_and_then (row_at es)) (slice_get_past order i past)

        pub none_past : (i : ℕ) → length order ≤ i → remove (rows_of es order) i ≡ rows_of es order
        none_past i past = sym (rows_removed (row_at es) order i (all_stand es order ok)) ∙ ap (filter_map (row_at es)) (remove_past order i past)

        -- a key without a row has no slot, and one with a row has one
        pub no_slot : (key : K) → lookup (eq key) (rows_of es order) ≡ None → lookup (eq key) es ≡ None
        no_slot key none = by (lookup (eq key) es) refl
          where
            by : (o : Option (Slot V)) → lookup (eq key) es ≡ o → lookup (eq key) es ≡ None
            by None h = h
            by (Some slot) h = absurd (none-some slot.value (sym none ∙ lookup_is key ∙ ap (option_map (λ (s : Slot V). s.value)) h))

        pub a_slot : (key : K) → is_some (lookup (eq key) (rows_of es order)) ≡ true → (slot : Slot V) × (lookup (eq key) es ≡ Some slot)
        a_slot key some = by (lookup (eq key) es) refl
          where
            by : (o : Option (Slot V)) → lookup (eq key) es ≡ o → (slot : Slot V) × (lookup (eq key) es ≡ Some slot)
            by None h = absurd (false≢true (sym (ap is_some (lookup_is key ∙ ap (option_map (λ (s : Slot V). s.value)) h)) ∙ some))
            by (Some slot) h = (slot, h)

-- the key that a test finds passes it
pub key_passes : {K V : Type 0} (test : K → Bool) (rows : List (K × V)) (key : K) → lookup_key test rows ≡ Some key → test key ≡ true
key_passes test [] key h = absurd (none-some key h)
key_passes {K} {V} test (row ∷ rows) key h = by (test row.0) refl (key_passes test rows key)
  where
    by : (b : Bool) → test row.0 ≡ b → (lookup_key test rows ≡ Some key → test key ≡ true) → test key ≡ true
    by true e later =
        ap test (sym (same_Some row.0 key (subst (λ (b : Bool). cond b (Some row.0) (lookup_key test rows) ≡ Some key) e h))) ∙ e
    by false e later = later (subst (λ (b : Bool). cond b (Some row.0) (lookup_key test rows) ≡ Some key) e h)

-- where no key passes none goes
pub none_removed : {K V : Type 0} (test : K → Bool) (rows : List (K × V)) → lookup test rows ≡ None → shift_remove_entry test rows ≡ rows
none_removed test [] none = refl
none_removed {K} {V} test (row ∷ rows) none = by (test row.0) refl (none_removed test rows)
  where
    by : (b : Bool) → test row.0 ≡ b → (lookup test rows ≡ None → shift_remove_entry test rows ≡ rows) → shift_remove_entry test (row ∷ rows) ≡ row ∷ rows
    by true e later = absurd (none-some row.1 (sym (subst (λ (b : Bool). cond b (Some row.1) (lookup test rows) ≡ None) e none)))
    by false e later =
        rw (e, later (subst (λ (b : Bool). cond b (Some row.1) (lookup test rows) ≡ None) e none)) refl

pub none_from : {X : Type 0} (o : Option X) → IsNone o → o ≡ None
none_from None h = refl
none_from (Some x) h = absurd (true≢false h)

-- what holds of a result that is `Ok`, and which is so
pub when_ok : {T E P : Type 0} (r : Result T E) → IsOk r → OnOk r P → P
when_ok (Ok x) h p = p
when_ok (Err e) h p = absurd cc

pub ok_unless : {T E P : Type 0} (r : Result T E) → OnErr r P → (P → ⊥) → IsOk r
ok_unless (Ok x) h never = refl
ok_unless (Err e) h never = absurd (never h)
