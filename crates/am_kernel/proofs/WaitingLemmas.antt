-- Walkers that have a walk, and those that have none.
use Rattle.std.proofs.Common.{◌≡◌, ◌≢◌, ◌+◌, ◌<◌, ℕ, suc, zero, Bool, true, false, cond, not, ◌==◌, List, [], ◌∷◌, ◌++◌, Option, Some, None, get_or, slice_get, Bor, refl, sym, ap, subst, ◌∙◌, arith}
use Rattle.std.specs.Prelude.{is_some, drop, remove, position, nat_eq, nat_lt, length}
use Rattle.std.specs.List.{position_or_len}
use Rattle.std.specs.Option.{option_copied}
use Rattle.std.specs.Slice.{IsItemAt}
use Rattle.std.proofs.lemmas.Bool.{lt-ltb}
use Rattle.std.proofs.lemmas.Option.{slice_get_past, slice_get_read}
use Rattle.std.proofs.lemmas.Bool.Decides.{nat_tests, Decides-eqb}
use Rattle.std.proofs.lemmas.List.{drop-drop}
use Rattle.am_names.proofs.Basics.{equal_by_test, none_where_not_some}
use Rattle.am_kernel.specs.{WalkRow, without_walk, walk_in, IsSingle}

-- ---- a walker that has no walk

pub none_taken : (w : ℕ) (rows : List WalkRow) → walk_in rows w ≡ None → without_walk w rows ≡ rows
none_taken w [] none = refl
none_taken w (row ∷ rows) none = by_test (row.walker == w) none (none_taken w rows)
  where
    by_test : (b : Bool) → cond b (Some row) (walk_in rows w) ≡ None → (walk_in rows w ≡ None → without_walk w rows ≡ rows) → cond (not b) (row ∷ without_walk w rows) (without_walk w rows) ≡ row ∷ rows
    by_test true h later = absurd cc
    by_test false h later = ap (λ (others : List WalkRow). row ∷ others) (later h)

-- ---- which walkers have a walk

has_first : (row : WalkRow) (rows : List WalkRow) (q : ℕ) → is_some (walk_in (row ∷ rows) q) ≡ cond (row.walker == q) true (is_some (walk_in rows q))
has_first row rows q = elim (row.walker == q) as (λ b. is_some (cond b (Some row) (walk_in rows q)) ≡ cond b true (is_some (walk_in rows q))) [ true ↦ refl | false ↦ refl ]

pub has_last : (rows : List WalkRow) (row : WalkRow) (q : ℕ) → is_some (walk_in (rows ++ row ∷ []) q) ≡ cond (row.walker == q) true (is_some (walk_in rows q))
has_last [] row q = has_first row [] q
has_last (r ∷ rows) row q =
    has_first r (rows ++ row ∷ []) q
    ∙ ap (cond (r.walker == q) true) (has_last rows row q)
    ∙ (elim (r.walker == q) as (λ b. cond b true (cond (row.walker == q) true (is_some (walk_in rows q))) ≡ cond (row.walker == q) true (cond b true (is_some (walk_in rows q)))) [
      | true ↦ elim (row.walker == q) as (λ e. true ≡ cond e true true) [ true ↦ refl | false ↦ refl ]
      | false ↦ refl
    ])
    ∙ ap (cond (row.walker == q) true) (sym (has_first r rows q))

pub has_others : (w : ℕ) (rows : List WalkRow) (q : ℕ) → is_some (walk_in (without_walk w rows) q) ≡ cond (w == q) false (is_some (walk_in rows q))
has_others w [] q = elim (w == q) as (λ b. false ≡ cond b false false) [ true ↦ refl | false ↦ refl ]
has_others w (row ∷ rows) q = by_test (row.walker == w) refl (has_others w rows q)
  where
    away : (e : Bool) → (w == q) ≡ e → row.walker ≡ w → cond e false (is_some (walk_in rows q)) ≡ cond e false (is_some (walk_in (row ∷ rows) q))
    away true h same = refl
    away false h same = sym (has_first row rows q ∙ ap (λ (b : Bool). cond b true (is_some (walk_in rows q))) (ap (λ (n : ℕ). n == q) same ∙ h))

    stays : (e f : Bool) → (w == q) ≡ e → (row.walker == q) ≡ f → (row.walker == w) ≡ false → cond f true (cond e false (is_some (walk_in rows q))) ≡ cond e false (cond f true (is_some (walk_in rows q)))
    stays true true h same other = absurd (grind (arith, nat_tests, h, same, other))
    stays true false h same other = refl
    stays false f h same other = refl

    by_test : (b : Bool) → (row.walker == w) ≡ b → is_some (walk_in (without_walk w rows) q) ≡ cond (w == q) false (is_some (walk_in rows q)) →
        is_some (walk_in (cond (not b) (row ∷ without_walk w rows) (without_walk w rows)) q) ≡ cond (w == q) false (is_some (walk_in (row ∷ rows) q))
    by_test true same later = later ∙ away (w == q) refl (equal_by_test row.walker w same)
    by_test false other later =
        has_first row (without_walk w rows) q ∙ ap (cond (row.walker == q) true) later
        ∙ stays (w == q) (row.walker == q) refl refl other
        ∙ ap (cond (w == q) false) (sym (has_first row rows q))

pub none_left : (w : ℕ) (rows : List WalkRow) → walk_in (without_walk w rows) w ≡ None
none_left w rows = none_where_not_some _ (has_others w rows w ∙ ap (λ (b : Bool). cond b false (is_some (walk_in rows w))) ((Decides-eqb w w).1 refl))

-- ---- each walker has one walk

gone_too : (w q : ℕ) (rows : List WalkRow) → walk_in rows q ≡ None → walk_in (without_walk w rows) q ≡ None
gone_too w q rows none =
    none_where_not_some _ (has_others w rows q ∙ ap (λ (o : Option WalkRow). cond (w == q) false (is_some o)) none ∙ (elim (w == q) as (λ b. cond b false false ≡ false) [ true ↦ refl | false ↦ refl ]))

pub single_taken : (w : ℕ) (rows : List WalkRow) → IsSingle rows → IsSingle (without_walk w rows)
single_taken w [] single = single
single_taken w (row ∷ rows) single = by_test (row.walker == w) (single_taken w rows single.1)
  where
    by_test : (b : Bool) → IsSingle (without_walk w rows) → IsSingle (cond (not b) (row ∷ without_walk w rows) (without_walk w rows))
    by_test true later = later
    by_test false later = (gone_too w row.walker rows single.0, later)

pub single_put : (rows : List WalkRow) (row : WalkRow) → IsSingle rows → walk_in rows row.walker ≡ None → IsSingle (rows ++ row ∷ [])
single_put [] row single none = (refl, single)
single_put (r ∷ rows) row single none = (free, single_put rows row single.1 (later (r.walker == row.walker) none))
  where
    later : (b : Bool) → cond b (Some r) (walk_in rows row.walker) ≡ None → walk_in rows row.walker ≡ None
    later true h = absurd cc
    later false h = h

    apart : (b : Bool) → (r.walker == row.walker) ≡ b → cond b (Some r) (walk_in rows row.walker) ≡ None → (row.walker == r.walker) ≡ false
    apart true e h = absurd cc
    apart false e h = grind (arith, nat_tests, e)

    free : walk_in (rows ++ row ∷ []) r.walker ≡ None
    free = none_where_not_some _ (has_last rows row r.walker ∙ ap (λ (b : Bool). cond b true (is_some (walk_in rows r.walker))) (apart (r.walker == row.walker) refl none) ∙ ap (λ (o : Option WalkRow). is_some o) single.0)

-- ---- where the walk is

one_more : {X : Type 0} (n : ℕ) (x : X) (xs : List X) → remove (x ∷ xs) (1 + n) ≡ x ∷ remove xs n
one_more n x xs = let e : 1 + n ≡ suc n = omega arith in rw e refl

removed_first : (w : ℕ) (rows : List WalkRow) → IsSingle rows → remove rows (position_or_len (λ row. row.walker == w) rows) ≡ without_walk w rows
removed_first w [] single = refl
removed_first w (row ∷ rows) single = by_test (row.walker == w) refl (removed_first w rows single.1)
  where
    by_test : (b : Bool) → (row.walker == w) ≡ b → remove rows (position_or_len (λ r. r.walker == w) rows) ≡ without_walk w rows → remove (row ∷ rows) (cond (not b) (1 + position_or_len (λ r. r.walker == w) rows) 0) ≡ cond (not b) (row ∷ without_walk w rows) (without_walk w rows)
    by_test true same later = sym (none_taken w rows (ap (walk_in rows) (sym (equal_by_test row.walker w same)) ∙ single.0))
    by_test false other later =
        one_more (position_or_len (λ r. r.walker == w) rows) row rows ∙ ap (λ (others : List WalkRow). row ∷ others) later

found_place : (b : Bool) (n place : ℕ) → cond b (Some n) None ≡ Some place → n ≡ place
found_place true n place e = cc
found_place false n place e = absurd cc

some_where_found : (b : Bool) (n place : ℕ) → cond b (Some n) None ≡ Some place → b ≡ true
some_where_found true n place e = refl
some_where_found false n place e = absurd cc

pub taken_at : (w place : ℕ) (rows : List WalkRow) → IsSingle rows → position (λ row. row.walker == w) rows ≡ Some place → remove rows place ≡ without_walk w rows
taken_at w place rows single e = subst (λ (n : ℕ). remove rows n ≡ without_walk w rows) (found_place _ _ place e) (removed_first w rows single)

-- ---- behind the walks that are over

none_removed : {X : Type 0} (place : ℕ) → remove {X = X} [] place ≡ []
none_removed zero = refl
none_removed (suc place) = refl

removed_behind : {X : Type 0} (over place : ℕ) (xs : List X) → drop over (remove xs (over + place)) ≡ remove (drop over xs) place
removed_behind zero place xs = let e : 0 + place ≡ place = omega arith in rw e refl
removed_behind (suc over) place [] = let e : suc over + place ≡ suc (over + place) = omega arith in rw e (sym (none_removed place))
removed_behind (suc over) place (x ∷ xs) = let e : suc over + place ≡ suc (over + place) = omega arith in rw e (removed_behind over place xs)

pub taken_behind : (w over place : ℕ) (rows : List WalkRow) → IsSingle (drop over rows) → position (λ row. row.walker == w) (drop over rows) ≡ Some place → drop over (remove rows (over + place)) ≡ without_walk w (drop over rows)
taken_behind w over place rows single e = removed_behind over place rows ∙ taken_at w place (drop over rows) single e

pub first_taken : (w over place : ℕ) (rows : List WalkRow) → IsSingle (drop over rows) → position (λ row. row.walker == w) (drop over rows) ≡ Some place → place ≡ 0 → drop (over + 1) rows ≡ without_walk w (drop over rows)
first_taken w over place rows single e first =
    sym (drop-drop 1 over rows) ∙ taken_at w 0 (drop over rows) single (e ∙ ap (λ (n : ℕ). Some n) first)

no_place : (w : ℕ) (rows : List WalkRow) → nat_lt (position_or_len (λ row. row.walker == w) rows) (length rows) ≡ false → walk_in rows w ≡ None
no_place w [] h = refl
no_place w (row ∷ rows) h = by_test (row.walker == w) h (no_place w rows)
  where
    by_test : (b : Bool) → nat_lt (cond (not b) (1 + position_or_len (λ (r : WalkRow). r.walker == w) rows) 0) (suc (length rows)) ≡ false → (nat_lt (position_or_len (λ (r : WalkRow). r.walker == w) rows) (length rows) ≡ false → walk_in rows w ≡ None) → cond b (Some row) (walk_in rows w) ≡ None
    by_test true less later = absurd (grind (arith, nat_tests, less))
    by_test false less later = later (grind (arith, nat_tests, less))

false_where_none : (b : Bool) (n : ℕ) → cond b (Some n) None ≡ None → b ≡ false
false_where_none true n e = absurd cc
false_where_none false n e = refl

pub none_there : (w : ℕ) (rows : List WalkRow) → position (λ row. row.walker == w) rows ≡ None → without_walk w rows ≡ rows
none_there w rows e = none_taken w rows (no_place w rows (false_where_none _ _ e))

-- ---- a place that was looked at

there_is : (w at : ℕ) (rows : List WalkRow) (row : WalkRow) → at < length rows → row ≡ get_or rows at row → (row.walker == w) ≡ true → walk_in rows w ≢ None
there_is w at [] row less e same none = absurd (omega (arith, less))
there_is w zero (r ∷ rows) row less e same none = absurd (cc (sym (ap (λ (b : Bool). cond b (Some r) (walk_in rows w)) (ap (λ (x : WalkRow). x.walker == w) (sym e) ∙ same)) ∙ none))
there_is w (suc at) (r ∷ rows) row less e same none = by_test (r.walker == w) none (there_is w at rows row (omega (arith, less)) e same)
  where
    by_test : (b : Bool) → cond b (Some r) (walk_in rows w) ≡ None → walk_in rows w ≢ None → ⊥
    by_test true h later = absurd cc
    by_test false h later = later h

-- the walker's walk is at this place, since it has no other
single_point : (w at : ℕ) (rows : List WalkRow) (row : WalkRow) → IsSingle rows → at < length rows → row ≡ get_or rows at row → (row.walker == w) ≡ true → position_or_len (λ (r : WalkRow). r.walker == w) rows ≡ at
single_point w at [] row single less e same = absurd (omega (arith, less))
single_point w zero (r ∷ rows) row single less e same = rw (ap (λ (x : WalkRow). x.walker == w) (sym e) ∙ same) refl
single_point w (suc at) (r ∷ rows) row single less e same =
    by_test (r.walker == w) refl (single_point w at rows row single.1 (omega (arith, less)) e same)
  where
    by_test : (b : Bool) → (r.walker == w) ≡ b → position_or_len (λ (x : WalkRow). x.walker == w) rows ≡ at → cond (not b) (1 + position_or_len (λ (x : WalkRow). x.walker == w) rows) 0 ≡ suc at
    by_test true first later =
        absurd (there_is w at rows row (omega (arith, less)) e same (ap (walk_in rows) (sym (equal_by_test r.walker w first)) ∙ single.0))
    by_test false first later = omega (arith, later)

pub single_place : (w at : ℕ) (rows : List WalkRow) (row : WalkRow) → IsSingle rows → at < length rows → row ≡ get_or rows at row → (row.walker == w) ≡ true → position (λ (r : WalkRow). r.walker == w) rows ≡ Some at
single_place w at rows row single less e same =
    let point = single_point w at rows row single less e same in
    rw (point, lt-ltb at (length rows) less) refl

-- what is at the place that was found
pub walk_at_place : (w : ℕ) (rows : List WalkRow) (place : ℕ) → position (λ (r : WalkRow). r.walker == w) rows ≡ Some place → slice_get rows place ≡ walk_in rows w
walk_at_place w rows place e = ap (slice_get rows) (sym (found_place _ _ place e)) ∙ at_point rows (some_where_found _ _ place e)
  where
    at_point : (rest : List WalkRow) → nat_lt (position_or_len (λ (r : WalkRow). r.walker == w) rest) (length rest) ≡ true → slice_get rest (position_or_len (λ (r : WalkRow). r.walker == w) rest) ≡ walk_in rest w
    at_point [] h = absurd cc
    at_point (r ∷ rest) h = by_test (r.walker == w) h (at_point rest)
      where
        by_test : (b : Bool) → nat_lt (cond (not b) (1 + position_or_len (λ (x : WalkRow). x.walker == w) rest) 0) (suc (length rest)) ≡ true →
            (nat_lt (position_or_len (λ (x : WalkRow). x.walker == w) rest) (length rest) ≡ true → slice_get rest (position_or_len (λ (x : WalkRow). x.walker == w) rest) ≡ walk_in rest w) →
            slice_get (r ∷ rest) (cond (not b) (1 + position_or_len (λ (x : WalkRow). x.walker == w) rest) 0) ≡ cond b (Some r) (walk_in rest w)
        by_test true less later = refl
        by_test false less later =
            let further : 1 + position_or_len (λ (x : WalkRow). x.walker == w) rest ≡ suc (position_or_len (λ (x : WalkRow). x.walker == w) rest) = omega arith in
            rw further (later (grind (arith, nat_tests, less)))

-- where there is no place, there is no walk
pub no_walk_where_no_place : (w : ℕ) (rows : List WalkRow) → position (λ row. row.walker == w) rows ≡ None → walk_in rows w ≡ None
no_walk_where_no_place w rows e = no_place w rows (false_where_none _ _ e)

-- what a look at a place tells
pub copied_is : (rows : List WalkRow) (at : ℕ) (o : Option (Bor WalkRow)) → IsItemAt rows at o → option_copied o ≡ slice_get rows at
copied_is rows at None item = sym (slice_get_past rows at item.3)
copied_is rows at (Some row) item = sym (slice_get_read rows (length rows) at row.now refl item.3.0 item.1)

-- ---- turns

nat_eq_is_eqb : (a b : ℕ) → nat_eq a b ≡ (a == b)
nat_eq_is_eqb a b = grind (arith, nat_tests)

-- a walker has no turn any more, and others have theirs
pub turn_taken : (w other : ℕ) (old new : Option ℕ) → new ≡ cond (nat_eq w other) None old → is_some new ≡ cond (w == other) false (is_some old)
turn_taken w other old new h =
    ap is_some (h ∙ ap (λ (b : Bool). cond b None old) (nat_eq_is_eqb w other))
    ∙ (elim (w == other) as (λ b. is_some (cond b None old) ≡ cond b false (is_some old)) [ true ↦ refl | false ↦ refl ])
