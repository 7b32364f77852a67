-- Tokens that have a job, and where it stands.
use Rattle.std.proofs.Common.{◌≡◌, ◌+◌, ◌<◌, ℕ, suc, zero, Bool, true, false, cond, not, ◌==◌, ◌||◌, List, [], ◌∷◌, ◌++◌, length, map, set, drop, Option, Some, None, get_or, slice_get, Bor, refl, sym, ap, ◌∙◌, arith}
use Rattle.std.specs.Prelude.{is_some, find, remove, position, nat_eq, nat_lt}
use Rattle.std.specs.List.{position_or_len}
use Rattle.std.specs.Option.{option_copied, option_map}
use Rattle.std.specs.Slice.{IsItemAt}
use Rattle.std.proofs.lemmas.Bool.{eqb-true, eq-eqb, lt-ltb, le-ltb, true≢false}
use Rattle.std.proofs.lemmas.Bool.Decides.{nat_tests}
use Rattle.std.proofs.lemmas.List.Quantifiers.{position-Some}
use Rattle.std.proofs.lemmas.Option.{same_Some, none-some, slice_get-get_or, slice_get_past, slice_get_read}
use Rattle.std.proofs.lemmas.List.{drop-drop}
use Rattle.am_job.specs.{Outcome, JobState}
use Rattle.am_daemon.specs.{JobPlan, job_plan, walked, IsSingle, is_among, tokens_of}
use Rattle.am_daemon.proofs.JobLemmas.{position_mapped, remove_mapped}

-- ---- which tokens are there

first_or : (x q : ℕ) (xs : List ℕ) → is_among q (x ∷ xs) ≡ cond (x == q) true (is_among q xs)
first_or x q xs = elim (x == q) as (λ b. (b || is_among q xs) ≡ cond b true (is_among q xs)) [ true ↦ refl | false ↦ refl ]

not_later : (x q : ℕ) (xs : List ℕ) → is_among q (x ∷ xs) ≡ false → is_among q xs ≡ false
not_later x q xs h = rest (x == q) (sym (first_or x q xs) ∙ h)
  where
    rest : (b : Bool) → cond b true (is_among q xs) ≡ false → is_among q xs ≡ false
    rest true e = absurd cc
    rest false e = e

not_first : (x q : ℕ) (xs : List ℕ) → is_among q (x ∷ xs) ≡ false → (x == q) ≡ false
not_first x q xs h = rest (x == q) (sym (first_or x q xs) ∙ h)
  where
    rest : (b : Bool) → cond b true (is_among q xs) ≡ false → b ≡ false
    rest true e = absurd cc
    rest false e = refl

-- what stands at a place is there
among_at : (w at : ℕ) (xs : List ℕ) → slice_get xs at ≡ Some w → is_among w xs ≡ true
among_at w at [] h = absurd (none-some w h)
among_at w zero (x ∷ xs) h = first_or x w xs ∙ ap (λ (b : Bool). cond b true (is_among w xs)) (eq-eqb x w (same_Some x w h))
among_at w (suc at) (x ∷ xs) h =
    first_or x w xs ∙ ap (cond (x == w) true) (among_at w at xs h)
    ∙ (elim (x == w) as (λ b. cond b true true ≡ true) [ true ↦ refl | false ↦ refl ])

-- ---- one more

pub among_pushed : (x q : ℕ) (xs : List ℕ) → is_among q (xs ++ x ∷ []) ≡ cond (x == q) true (is_among q xs)
among_pushed x q [] = first_or x q []
among_pushed x q (y ∷ ys) =
    first_or y q (ys ++ x ∷ [])
    ∙ ap (cond (y == q) true) (among_pushed x q ys)
    ∙ (elim (y == q) as (λ b. cond b true (cond (x == q) true (is_among q ys)) ≡ cond (x == q) true (cond b true (is_among q ys))) [
      | true ↦ elim (x == q) as (λ e. true ≡ cond e true true) [ true ↦ refl | false ↦ refl ]
      | false ↦ refl
    ])
    ∙ ap (cond (x == q) true) (sym (first_or y q ys))

pub single_pushed : (x : ℕ) (xs : List ℕ) → IsSingle xs → is_among x xs ≡ false → IsSingle (xs ++ x ∷ [])
single_pushed x [] single none = (refl, single)
single_pushed x (y ∷ ys) single none = (free, single_pushed x ys single.1 (not_later y x ys none))
  where
    apart : (x == y) ≡ false
    apart = let e : (y == x) ≡ false = not_first y x ys none in grind (arith, nat_tests, e)

    free : is_among y (ys ++ x ∷ []) ≡ false
    free = among_pushed x y ys ∙ ap (λ (b : Bool). cond b true (is_among y ys)) apart ∙ single.0

-- ---- one that goes

gone_too : (q at : ℕ) (xs : List ℕ) → is_among q xs ≡ false → is_among q (remove xs at) ≡ false
gone_too q zero [] h = h
gone_too q (suc at) [] h = h
gone_too q zero (x ∷ xs) h = not_later x q xs h
gone_too q (suc at) (x ∷ xs) h =
    first_or x q (remove xs at)
    ∙ ap (cond (x == q) true) (gone_too q at xs (not_later x q xs h))
    ∙ ap (λ (b : Bool). cond b true false) (not_first x q xs h)

pub single_removed : (at : ℕ) (xs : List ℕ) → IsSingle xs → IsSingle (remove xs at)
single_removed zero [] single = single
single_removed (suc at) [] single = single
single_removed zero (x ∷ xs) single = single.1
single_removed (suc at) (x ∷ xs) single = (gone_too x at xs single.0, single_removed at xs single.1)

pub among_removed : (w q at : ℕ) (xs : List ℕ) → IsSingle xs → slice_get xs at ≡ Some w → is_among q (remove xs at) ≡ cond (w == q) false (is_among q xs)
among_removed w q at [] single h = absurd (none-some w h)
among_removed w q zero (x ∷ xs) single h = by (w == q) refl
  where
    same : x ≡ w
    same = same_Some x w h

    by : (b : Bool) → (w == q) ≡ b → is_among q xs ≡ cond b false (is_among q (x ∷ xs))
    by true e = ap (λ (n : ℕ). is_among n xs) (sym (same ∙ eqb-true w q e)) ∙ single.0
    by false e = sym (first_or x q xs ∙ ap (λ (b : Bool). cond b true (is_among q xs)) (ap (λ (n : ℕ). n == q) same ∙ e))
among_removed w q (suc at) (x ∷ xs) single h =
    first_or x q (remove xs at)
    ∙ ap (cond (x == q) true) (among_removed w q at xs single.1 h)
    ∙ stays (x == q) (w == q) refl refl
    ∙ ap (cond (w == q) false) (sym (first_or x q xs))
  where
    stays : (b c : Bool) → (x == q) ≡ b → (w == q) ≡ c → cond b true (cond c false (is_among q xs)) ≡ cond c false (cond b true (is_among q xs))
    stays true true e f =
        absurd (true≢false (sym (among_at w at xs h) ∙ ap (λ (n : ℕ). is_among n xs) (eqb-true w q f ∙ sym (eqb-true x q e)) ∙ single.0))
    stays true false e f = refl
    stays false c e f = refl

-- ---- where a token stands

-- what is at the place that was found
pub found_token : (w at : ℕ) (xs : List ℕ) → position (λ x. x == w) xs ≡ Some at → slice_get xs at ≡ Some w
found_token w at xs e =
    let found = position-Some (λ x. x == w) xs at 0 e in
    slice_get-get_or xs at 0 found.0 ∙ ap Some (eqb-true (get_or xs at 0) w found.1)

past_all : (q : ℕ) (xs : List ℕ) → is_among q xs ≡ false → position_or_len (λ x. x == q) xs ≡ length xs
past_all q [] h = refl
past_all q (x ∷ xs) h = rw (not_first x q xs h) (let later = past_all q xs (not_later x q xs h) in omega (arith, later))

none_placed : (q : ℕ) (xs : List ℕ) → is_among q xs ≡ false → position (λ x. x == q) xs ≡ None
none_placed q xs h = rw (past_all q xs h, le-ltb (length xs) (length xs) (omega arith)) refl

-- no other place has the token
single_point : (q at : ℕ) (xs : List ℕ) → IsSingle xs → slice_get xs at ≡ Some q → position_or_len (λ x. x == q) xs ≡ at
single_point q at [] single h = absurd (none-some q h)
single_point q zero (x ∷ xs) single h = rw (eq-eqb x q (same_Some x q h)) refl
single_point q (suc at) (x ∷ xs) single h = by (x == q) refl (single_point q at xs single.1 h)
  where
    by : (b : Bool) → (x == q) ≡ b → position_or_len (λ y. y == q) xs ≡ at → cond (not b) (1 + position_or_len (λ y. y == q) xs) 0 ≡ suc at
    by true e later =
        absurd (true≢false (sym (among_at q at xs h) ∙ ap (λ (n : ℕ). is_among n xs) (sym (eqb-true x q e)) ∙ single.0))
    by false e later = omega (arith, later)

-- ---- jobs by their tokens

abbrev token_of : JobState → ℕ
token_of row = row.token

pub places_alike : (job : ℕ) (rows : List JobState) → position (λ (row : JobState). row.token == job) rows ≡ position (λ token. token == job) (tokens_of rows)
places_alike job rows = position_mapped token_of (λ token. token == job) rows

get_mapped : {A B : Type 0} (f : A → B) (xs : List A) (at : ℕ) → slice_get (map f xs) at ≡ option_map f (slice_get xs at)
get_mapped f [] zero = refl
get_mapped f [] (suc at) = refl
get_mapped f (x ∷ xs) zero = refl
get_mapped f (x ∷ xs) (suc at) = get_mapped f xs at

-- the token's job is at this place, since it has no other
pub single_place : (job at : ℕ) (rows : List JobState) (row : JobState) → IsSingle (tokens_of rows) → at < length rows → row ≡ get_or rows at row → (row.token == job) ≡ true → position (λ (r : JobState). r.token == job) rows ≡ Some at
single_place job at rows row single less is same =
    let there : slice_get rows at ≡ Some row = slice_get-get_or rows at row less ∙ ap Some (sym is) in
    let token : slice_get (tokens_of rows) at ≡ Some job = get_mapped token_of rows at ∙ ap (option_map token_of) there ∙ ap Some (eqb-true row.token job same) in
    let point : position_or_len (λ token. token == job) (tokens_of rows) ≡ at = single_point job at (tokens_of rows) single token in
    let within = (position-within rows at less) in
    places_alike job rows ∙ rw (point, lt-ltb at (length (tokens_of rows)) within) refl
  where
    position-within : (rs : List JobState) (i : ℕ) → i < length rs → i < length (tokens_of rs)
    position-within [] i h = h
    position-within (r ∷ rs) zero h = omega arith
    position-within (r ∷ rs) (suc i) h = let later = position-within rs i (omega (arith, h)) in omega (arith, later)

-- where the token isn't there, there is no place
pub no_place : (job : ℕ) (rows : List JobState) → is_among job (tokens_of rows) ≡ false → position (λ (row : JobState). row.token == job) rows ≡ None
no_place job rows h = places_alike job rows ∙ none_placed job (tokens_of rows) h

pub fresh_token : (job : ℕ) (rows : List JobState) → find (λ (row : JobState). row.token == job) rows ≡ None → is_among job (tokens_of rows) ≡ false
fresh_token job [] h = refl
fresh_token job (row ∷ rows) h = first_or row.token job (tokens_of rows) ∙ by (row.token == job) h (fresh_token job rows)
  where
    by : (b : Bool) → cond b (Some row) (find (λ (r : JobState). r.token == job) rows) ≡ None → (find (λ (r : JobState). r.token == job) rows ≡ None → is_among job (tokens_of rows) ≡ false) → cond b true (is_among job (tokens_of rows)) ≡ false
    by true e later = absurd cc
    by false e later = later e

pub tokens_pushed : (rows : List JobState) (row : JobState) → tokens_of (rows ++ row ∷ []) ≡ tokens_of rows ++ row.token ∷ []
tokens_pushed [] row = refl
tokens_pushed (r ∷ rows) row = ap (λ (tokens : List ℕ). r.token ∷ tokens) (tokens_pushed rows row)

pub tokens_removed : (rows : List JobState) (at : ℕ) → tokens_of (remove rows at) ≡ remove (tokens_of rows) at
tokens_removed rows at = remove_mapped token_of rows at

-- ---- a job that goes on keeps its token

tokens_planned : (rows : List JobState) → tokens_of rows ≡ map (λ (p : JobPlan). p.token) (map job_plan rows)
tokens_planned [] = refl
tokens_planned (r ∷ rows) = ap (λ (tokens : List ℕ). r.token ∷ tokens) (tokens_planned rows)

token_set : (plans : List JobPlan) (at : ℕ) (outcome : Outcome) (d : JobPlan) → map (λ (p : JobPlan). p.token) (set plans at (walked outcome (get_or plans at d))) ≡ map (λ (p : JobPlan). p.token) plans
token_set [] zero outcome d = refl
token_set [] (suc at) outcome d = refl
token_set (p ∷ plans) zero outcome d = refl
token_set (p ∷ plans) (suc at) outcome d = ap (λ (tokens : List ℕ). p.token ∷ tokens) (token_set plans at outcome d)

pub tokens_stay : (old new : List JobState) (at : ℕ) (outcome : Outcome) (d : JobPlan) → map job_plan new ≡ set (map job_plan old) at (walked outcome (get_or (map job_plan old) at d)) → tokens_of new ≡ tokens_of old
tokens_stay old new at outcome d e =
    tokens_planned new ∙ ap (map (λ (p : JobPlan). p.token)) e ∙ token_set (map job_plan old) at outcome d ∙ sym (tokens_planned old)

-- ---- behind the jobs that ended

none_removed : {X : Type 0} (place : ℕ) → remove {X = X} [] place ≡ []
none_removed zero = refl
none_removed (suc place) = refl

pub removed_behind : {X : Type 0} (over place : ℕ) (xs : List X) → drop over (remove xs (over + place)) ≡ remove (drop over xs) place
removed_behind zero place xs = let e : 0 + place ≡ place = omega arith in rw e refl
removed_behind (suc over) place [] = let e : suc over + place ≡ suc (over + place) = omega arith in rw e (sym (none_removed place))
removed_behind (suc over) place (x ∷ xs) = let e : suc over + place ≡ suc (over + place) = omega arith in rw e (removed_behind over place xs)

first_gone : {X : Type 0} (xs : List X) → drop 1 xs ≡ remove xs 0
first_gone [] = refl
first_gone (x ∷ xs) = refl

pub first_behind : {X : Type 0} (over place : ℕ) (xs : List X) → place ≡ 0 → drop (over + 1) xs ≡ remove (drop over xs) place
first_behind over place xs first = sym (drop-drop 1 over xs) ∙ first_gone (drop over xs) ∙ ap (remove (drop over xs)) (sym first)

-- ---- what a search finds

found_place : (b : Bool) (n place : ℕ) → cond b (Some n) None ≡ Some place → n ≡ place
found_place true n place e = cc
found_place false n place e = absurd cc

some_where_found : (b : Bool) (n place : ℕ) → cond b (Some n) None ≡ Some place → b ≡ true
some_where_found true n place e = refl
some_where_found false n place e = absurd cc

false_where_none : (b : Bool) (n : ℕ) → cond b (Some n) None ≡ None → b ≡ false
false_where_none true n e = absurd cc
false_where_none false n e = refl

module _ {X : Type 0} (test : X → Bool) where
  none_past : (rows : List X) → nat_lt (position_or_len test rows) (length rows) ≡ false → find test rows ≡ None
  none_past [] h = refl
  none_past (row ∷ rows) h = by_test (test row) h (none_past rows)
    where
      by_test : (b : Bool) → nat_lt (cond (not b) (1 + position_or_len test rows) 0) (suc (length rows)) ≡ false → (nat_lt (position_or_len test rows) (length rows) ≡ false → find test rows ≡ None) → cond b (Some row) (find test rows) ≡ None
      by_test true less later = absurd (grind (arith, nat_tests, less))
      by_test false less later = later (grind (arith, nat_tests, less))

  -- where there is no place, nothing is found
  pub none_found : (rows : List X) → position test rows ≡ None → find test rows ≡ None
  none_found rows e = none_past rows (false_where_none _ _ e)

  -- what is at the place is found
  pub one_found : (rows : List X) (place : ℕ) → position test rows ≡ Some place → slice_get rows place ≡ find test rows
  one_found rows place e = ap (slice_get rows) (sym (found_place _ _ place e)) ∙ at_point rows (some_where_found _ _ place e)
    where
      at_point : (rest : List X) → nat_lt (position_or_len test rest) (length rest) ≡ true → slice_get rest (position_or_len test rest) ≡ find test rest
      at_point [] h = absurd cc
      at_point (r ∷ rest) h = by_test (test r) h (at_point rest)
        where
          by_test : (b : Bool) → nat_lt (cond (not b) (1 + position_or_len test rest) 0) (suc (length rest)) ≡ true →
              (nat_lt (position_or_len test rest) (length rest) ≡ true → slice_get rest (position_or_len test rest) ≡ find test rest) →
              slice_get (r ∷ rest) (cond (not b) (1 + position_or_len test rest) 0) ≡ cond b (Some r) (find test rest)
          by_test true less later = refl
          by_test false less later =
              let further : 1 + position_or_len test rest ≡ suc (position_or_len test rest) = omega arith in
              rw further (later (grind (arith, nat_tests, less)))

-- what a look at a place tells
pub copied_is : {X : Type 0} (rows : List X) (at : ℕ) (o : Option (Bor X)) → IsItemAt rows at o → option_copied o ≡ slice_get rows at
copied_is rows at None item = sym (slice_get_past rows at item.3)
copied_is rows at (Some row) item = sym (slice_get_read rows (length rows) at row.now refl item.3.0 item.1)

-- ---- turns

nat_eq_is_eqb : (a b : ℕ) → nat_eq a b ≡ (a == b)
nat_eq_is_eqb a b = grind (arith, nat_tests)

-- a token has no turn any more, and others have theirs
pub turn_taken : (w other : ℕ) (old new : Option ℕ) → new ≡ cond (nat_eq w other) None old → is_some new ≡ cond (w == other) false (is_some old)
turn_taken w other old new h =
    ap is_some (h ∙ ap (λ (b : Bool). cond b None old) (nat_eq_is_eqb w other))
    ∙ (elim (w == other) as (λ b. is_some (cond b None old) ≡ cond b false (is_some old)) [ true ↦ refl | false ↦ refl ])
