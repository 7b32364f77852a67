-- Of the rows with one key the first is kept.
use Rattle.std.proofs.Common.{◌≡◌, ℕ, Bool, true, false, not, ◌||◌, List, [], ◌∷◌, ◌++◌, refl, sym, ap, ◌∙◌, append_assoc}
use Rattle.std.specs.Prelude.{Option, find, filter, fold}
use Rattle.std.specs.Str.{bytes_eq}
use Rattle.std.specs.List.{list_any}
use Rattle.std.proofs.lemmas.List.{append-nil}
use Rattle.std.proofs.lemmas.List.Folds.{list_any-append}
use Rattle.std.proofs.lemmas.Slice.Eq.{bytes_eq-Decides}
use Rattle.am_map.specs.{Row, has_key, first_of_each, or_else, entry_for, entry_of_row, star, row_added}
use Rattle.am_map.proofs.StoredLemmas.{row_added-there, row_added-new}
use Rattle.am_names.proofs.Basics.{same_test, true_where_not_false, false_where_not}

bytes_eq-comm : (a b : List ℕ) → bytes_eq a b ≡ bytes_eq b a
bytes_eq-comm a b = same_test _ _ (λ e. (bytes_eq-Decides b a).1 (sym ((bytes_eq-Decides a b).0 e))) (λ e. (bytes_eq-Decides a b).1 (sym ((bytes_eq-Decides b a).0 e)))

-- a test within a test is one test
filter_within : (p q r : Row → Bool) → ((row : Row) → q row ≡ true → p row ≡ r row) → ((row : Row) → q row ≡ false → r row ≡ false) → (rows : List Row) → filter p (filter q rows) ≡ filter r rows
filter_within p q r within outside [] = refl
filter_within p q r within outside (row ∷ rows) = by (q row) refl (filter_within p q r within outside rows)
  where
    by : (b : Bool) → q row ≡ b → filter p (filter q rows) ≡ filter r rows → filter p (filter q (row ∷ rows)) ≡ filter r (row ∷ rows)
    by true e rest = rw (e, within row e, rest) refl
    by false e rest = rw (e, outside row e, rest) refl

-- no row in front has the key
unseen : List Row → Row → Bool
unseen front row = not (list_any (has_key row.key) front)

same_key : (row other : Row) → not (has_key row.key other) ≡ false → row.key ≡ other.key
same_key row other e = (bytes_eq-Decides row.key other.key).0 (true_where_not_false _ e)

-- a row that is seen is not kept
seen_drops : (front : List Row) (row : Row) → list_any (has_key row.key) front ≡ true → (rows : List Row) → filter (unseen front) (row ∷ filter (λ other. not (has_key row.key other)) rows) ≡ filter (unseen front) rows
unfolding unseen
seen_drops front row seen rows =
    rw seen (filter_within (unseen front) (λ other. not (has_key row.key other)) (unseen front) (λ other e. refl)
    (λ other e. ap not (ap (λ (key : List ℕ). list_any (has_key key) front) (sym (same_key row other e)) ∙ seen)) rows)

or_nothing : (a : Bool) → (a || (false || false)) ≡ a
or_nothing true = refl
or_nothing false = refl

or_something : (a : Bool) → (a || (true || false)) ≡ true
or_something true = refl
or_something false = refl

-- a new row hides the later ones with its key
new_hides : (front : List Row) (row : Row) (rows : List Row) → filter (unseen front) (filter (λ other. not (has_key row.key other)) rows) ≡ filter (unseen (front ++ row ∷ [])) rows
unfolding unseen
new_hides front row rows = filter_within (unseen front) (λ other. not (has_key row.key other)) (unseen (front ++ row ∷ [])) within outside rows
  where
    within : (other : Row) → not (has_key row.key other) ≡ true → unseen front other ≡ unseen (front ++ row ∷ []) other
    within other e =
        let differs : has_key other.key row ≡ false = bytes_eq-comm other.key row.key ∙ false_where_not _ e in
        let same : list_any (has_key other.key) (front ++ row ∷ []) ≡ list_any (has_key other.key) front =
        list_any-append (has_key other.key) front (row ∷ []) ∙ rw differs (or_nothing (list_any (has_key other.key) front)) in
        ap not (sym same)

    outside : (other : Row) → not (has_key row.key other) ≡ false → unseen (front ++ row ∷ []) other ≡ false
    outside other e =
        let same : has_key other.key row ≡ true = bytes_eq-comm other.key row.key ∙ true_where_not_false _ e in
        let seen : list_any (has_key other.key) (front ++ row ∷ []) ≡ true =
        list_any-append (has_key other.key) front (row ∷ []) ∙ rw same (or_something (list_any (has_key other.key) front)) in
        ap not seen

new_stays : (front : List Row) (row : Row) → list_any (has_key row.key) front ≡ false → (rows : List Row) → filter (unseen front) (row ∷ filter (λ other. not (has_key row.key other)) rows) ≡ row ∷ filter (unseen (front ++ row ∷ [])) rows
unfolding unseen
new_stays front row new rows = rw new (ap (λ (others : List Row). row ∷ others) (new_hides front row rows))

-- rows added one after another are the first of each key that is not in front
added_all : (front rows : List Row) → fold row_added front rows ≡ front ++ filter (unseen front) (first_of_each rows)
added_all front [] = sym (append-nil front)
added_all front (row ∷ rows) = by (list_any (has_key row.key) front) refl (added_all (row_added front row) rows)
  where
    by : (b : Bool) → list_any (has_key row.key) front ≡ b → fold row_added (row_added front row) rows ≡ row_added front row ++ filter (unseen (row_added front row)) (first_of_each rows) →
        fold row_added (row_added front row) rows ≡ front ++ filter (unseen front) (row ∷ filter (λ other. not (has_key row.key other)) (first_of_each rows))
    by true e rest =
        rest ∙ ap (λ (f : List Row). f ++ filter (unseen f) (first_of_each rows)) (row_added-there front row e)
        ∙ ap (λ (others : List Row). front ++ others) (sym (seen_drops front row e (first_of_each rows)))
    by false e rest =
        rest ∙ ap (λ (f : List Row). f ++ filter (unseen f) (first_of_each rows)) (row_added-new front row e)
        ∙ append_assoc front (row ∷ []) (filter (unseen (front ++ row ∷ [])) (first_of_each rows))
        ∙ ap (λ (others : List Row). front ++ others) (sym (new_stays front row e (first_of_each rows)))

all_unseen : (rows : List Row) → filter (unseen []) rows ≡ rows
unfolding unseen
all_unseen [] = refl
all_unseen (row ∷ rows) = ap (λ (others : List Row). row ∷ others) (all_unseen rows)

pub added-first_of_each : (rows : List Row) → fold row_added [] rows ≡ first_of_each rows
added-first_of_each rows = added_all [] rows ∙ all_unseen (first_of_each rows)

find_within : (p q : Row → Bool) → ((row : Row) → p row ≡ true → q row ≡ true) → (rows : List Row) → find p (filter q rows) ≡ find p rows
find_within p q within [] = refl
find_within p q within (row ∷ rows) = by (q row) refl (p row) refl (find_within p q within rows)
  where
    by : (b : Bool) → q row ≡ b → (a : Bool) → p row ≡ a → find p (filter q rows) ≡ find p rows → find p (filter q (row ∷ rows)) ≡ find p (row ∷ rows)
    by true e true f rest = rw (e, f) refl
    by true e false f rest = rw (e, f) rest
    by false e true f rest = absurd (differ (sym (within row f) ∙ e))
      where
        differ : true ≡ false → ⊥
        differ h = cc
    by false e false f rest = rw (e, f) rest

-- the first row with a key is kept
find-first_of_each : (key : List ℕ) (rows : List Row) → find (has_key key) (first_of_each rows) ≡ find (has_key key) rows
find-first_of_each key [] = refl
find-first_of_each key (row ∷ rows) = by (has_key key row) refl (find-first_of_each key rows)
  where
    others : has_key key row ≡ false → (other : Row) → has_key key other ≡ true → not (has_key row.key other) ≡ true
    others e other f =
        let same : key ≡ other.key = (bytes_eq-Decides key other.key).0 f in
        ap not (ap (λ (k : List ℕ). bytes_eq row.key k) (sym same) ∙ bytes_eq-comm row.key key ∙ e)

    by : (b : Bool) → has_key key row ≡ b → find (has_key key) (first_of_each rows) ≡ find (has_key key) rows → find (has_key key) (first_of_each (row ∷ rows)) ≡ find (has_key key) (row ∷ rows)
    by true e rest = rw e refl
    by false e rest = rw e (find_within (has_key key) (λ other. not (has_key row.key other)) (others e) (first_of_each rows) ∙ rest)

-- so a key is looked up in what is kept as in all rows
pub entry_for-first_of_each : (rows : List Row) (key : List ℕ) → entry_for (first_of_each rows) key ≡ entry_for rows key
entry_for-first_of_each rows key =
    ap (λ (found : Option Row). entry_of_row key (or_else found (find (has_key star) (first_of_each rows)))) (find-first_of_each key rows)
    ∙ ap (λ (found : Option Row). entry_of_row key (or_else (find (has_key key) rows) found)) (find-first_of_each star rows)
