-- Walkers that enter and leave.
use Rattle.std.proofs.Common.{◌≡◌, ◌+◌, ℕ, Bool, true, false, cond, not, ◌==◌, List, [], ◌∷◌, ◌++◌, Option, Some, None, refl, sym, ap, ◌∙◌, arith}
use Rattle.std.specs.Prelude.{find, is_some}
use Rattle.std.specs.List.{AllZip}
use Rattle.std.specs.Option.{option_map}
use Rattle.std.proofs.lemmas.List.Elements.{same_from_all_zip}
use Rattle.std.proofs.lemmas.List.Sums.{sum_by-append}
use Rattle.std.proofs.lemmas.Bool.Decides.{nat_tests, Decides-eqb}
use Rattle.am_names.proofs.Basics.{equal_by_test, some_injective}
use Rattle.am_expire.specs.{Use, mount_of_walker, use_count, left, IsInToo, IsInNoMore, HasOneMore}
use Rattle.am_expire.specs.View.{IsSingle}

abbrev or_else : Option ℕ → Option ℕ → Option ℕ
or_else (Some m) other = Some m
or_else None other = other

abbrev pub unless_at : Bool → Use → Option ℕ → Option ℕ
unless_at b row other = cond b (Some row.mount) other

pub first_of : (row : Use) (rows : List Use) (w : ℕ) → mount_of_walker (row ∷ rows) w ≡ unless_at (row.walker == w) row (mount_of_walker rows w)
first_of row rows w = elim (row.walker == w) as (λ b. option_map (λ (r : Use). r.mount) (cond b (Some row) (find (λ (r : Use). r.walker == w) rows)) ≡ unless_at b row (mount_of_walker rows w)) [ true ↦ refl | false ↦ refl ]

zero_plus : (n : ℕ) → 0 + n ≡ n
zero_plus n = omega arith

pub count_first : (row : Use) (rows : List Use) (m : ℕ) → use_count (row ∷ rows) m ≡ cond (row.mount == m) 1 0 + use_count rows m
count_first row rows m =
    sum_by-append (λ (r : Use). cond (r.mount == m) 1 0) (row ∷ []) rows
    ∙ ap (λ (n : ℕ). n + use_count rows m) (zero_plus (cond (row.mount == m) 1 0))

-- ---- enter

mount_last : (rows : List Use) (row : Use) (w : ℕ) → mount_of_walker (rows ++ row ∷ []) w ≡ or_else (mount_of_walker rows w) (unless_at (row.walker == w) row None)
mount_last [] row w = first_of row [] w
mount_last (r ∷ rows) row w =
    first_of r (rows ++ row ∷ []) w
    ∙ ap (unless_at (r.walker == w) r) (mount_last rows row w)
    ∙ (elim (r.walker == w) as (λ b. unless_at b r (or_else (mount_of_walker rows w) (unless_at (row.walker == w) row None)) ≡ or_else (unless_at b r (mount_of_walker rows w)) (unless_at (row.walker == w) row None)) [ true ↦ refl | false ↦ refl ])
    ∙ ap (λ o. or_else o (unless_at (row.walker == w) row None)) (sym (first_of r rows w))

or_none : (o : Option ℕ) → or_else o None ≡ o
or_none (Some m) = refl
or_none None = refl

entered_at : (rows : List Use) (row : Use) (w : ℕ) (b : Bool) → (row.walker == w) ≡ b → mount_of_walker rows row.walker ≡ None → or_else (mount_of_walker rows w) (unless_at b row None) ≡ unless_at b row (mount_of_walker rows w)
entered_at rows row w true e none = rw (ap (mount_of_walker rows) (sym (equal_by_test row.walker w e)) ∙ none) refl
entered_at rows row w false e none = or_none (mount_of_walker rows w)

pub enters : (rows : List Use) (row : Use) → mount_of_walker rows row.walker ≡ None → IsInToo row.walker row.mount rows (rows ++ row ∷ [])
enters rows row none w = mount_last rows row w ∙ entered_at rows row w (row.walker == w) refl none

pub enters_count : (rows : List Use) (row : Use) → HasOneMore row.mount rows (rows ++ row ∷ [])
enters_count rows row m =
    sum_by-append (λ (r : Use). cond (r.mount == m) 1 0) rows (row ∷ [])
    ∙ ap (λ (n : ℕ). use_count rows m + n) (zero_plus (cond (row.mount == m) 1 0))

single_at : (r row : Use) (rows : List Use) (b : Bool) → (row.walker == r.walker) ≡ b → mount_of_walker rows r.walker ≡ None → mount_of_walker (r ∷ rows) row.walker ≡ None → mount_of_walker (rows ++ row ∷ []) r.walker ≡ None
single_at r row rows true e free none =
    absurd (cc (sym (first_of r rows row.walker) ∙ none, (Decides-eqb r.walker row.walker).1 (sym (equal_by_test row.walker r.walker e))))
single_at r row rows false e free none = rw (mount_last rows row r.walker, free, e) refl

rest_free : (r row : Use) (rows : List Use) (b : Bool) → (r.walker == row.walker) ≡ b → unless_at b r (mount_of_walker rows row.walker) ≡ None → mount_of_walker rows row.walker ≡ None
rest_free r row rows true e none = absurd cc
rest_free r row rows false e none = none

pub enters_single : (rows : List Use) (row : Use) → IsSingle rows → mount_of_walker rows row.walker ≡ None → IsSingle (rows ++ row ∷ [])
enters_single [] row single none = (refl, tt)
enters_single (r ∷ rows) row single none = (
  single_at r row rows (row.walker == r.walker) refl single.0 none,
  enters_single rows row single.1 (rest_free r row rows (r.walker == row.walker) refl (sym (first_of r rows row.walker) ∙ none)),
)

-- ---- leave

left_first : (r : Use) (rows : List Use) (walker w : ℕ) (b c : Bool) → (r.walker == walker) ≡ b → (r.walker == w) ≡ c →
    mount_of_walker (left walker rows) w ≡ cond (walker == w) None (mount_of_walker rows w) →
    mount_of_walker (left walker (r ∷ rows)) w ≡ cond (walker == w) None (mount_of_walker (r ∷ rows) w)
left_first r rows walker w true true e f later =
    let same : (walker == w) ≡ true = (Decides-eqb walker w).1 (sym (equal_by_test r.walker walker e) ∙ equal_by_test r.walker w f) in
    rw (e, same) (rw same at later)
left_first r rows walker w true false e f later = rw (e, f) later
left_first r rows walker w false true e f later =
    let other : (walker == w) ≡ false = grind (arith, nat_tests, e, f) in
    rw (e, f, other) refl
left_first r rows walker w false false e f later = rw (e, f) later

pub leaves : (rows : List Use) (walker : ℕ) → IsInNoMore walker rows (left walker rows)
leaves [] walker w = elim (walker == w) as (λ b. ◌≡◌ {A = Option ℕ} None (cond b None None)) [ true ↦ refl | false ↦ refl ]
leaves (r ∷ rows) walker w = left_first r rows walker w (r.walker == walker) (r.walker == w) refl refl (leaves rows walker w)

-- nobody of these leaves
pub stays_all : (rows : List Use) (walker : ℕ) → mount_of_walker rows walker ≡ None → left walker rows ≡ rows
stays_all [] walker none = refl
stays_all (r ∷ rows) walker none = by_test (r.walker == walker) refl (sym (first_of r rows walker) ∙ none) (stays_all rows walker)
  where
    by_test : (b : Bool) → (r.walker == walker) ≡ b → unless_at b r (mount_of_walker rows walker) ≡ None → (mount_of_walker rows walker ≡ None → left walker rows ≡ rows) → left walker (r ∷ rows) ≡ r ∷ rows
    by_test true e none later = absurd cc
    by_test false e none later = rw e (ap (λ (rest : List Use). r ∷ rest) (later none))

one_less : (c n k : ℕ) → n ≡ k + c → (d : ℕ) → d + n ≡ (d + k) + c
one_less c n k e d = omega (arith, e)

pub leaves_count : (rows : List Use) (walker mount : ℕ) → IsSingle rows → mount_of_walker rows walker ≡ Some mount → HasOneMore mount (left walker rows) rows
leaves_count [] walker mount single there m = absurd cc
leaves_count (r ∷ rows) walker mount single there m = by_test (r.walker == walker) refl (sym (first_of r rows walker) ∙ there) (λ h. leaves_count rows walker mount single.1 h m)
  where
    by_test : (b : Bool) → (r.walker == walker) ≡ b → unless_at b r (mount_of_walker rows walker) ≡ Some mount → (mount_of_walker rows walker ≡ Some mount → use_count rows m ≡ use_count (left walker rows) m + cond (mount == m) 1 0) → use_count (r ∷ rows) m ≡ use_count (left walker (r ∷ rows)) m + cond (mount == m) 1 0
    by_test true e there later =
        let free : mount_of_walker rows walker ≡ None = ap (mount_of_walker rows) (sym (equal_by_test r.walker walker e)) ∙ single.0 in
        let is : r.mount ≡ mount = some_injective there in
        rw (count_first r rows m, e, stays_all rows walker free, is) (omega arith)
    by_test false e there later =
        rw (count_first r rows m, e, count_first r (left walker rows) m) (one_less (cond (mount == m) 1 0) (use_count rows m) (use_count (left walker rows) m) (later there) (cond (r.mount == m) 1 0))

still_free : (rows : List Use) (walker w : ℕ) → mount_of_walker rows w ≡ None → mount_of_walker (left walker rows) w ≡ None
still_free rows walker w free = leaves rows walker w ∙ (rw free (elim (walker == w) as (λ b. cond {A = Option ℕ} b None None ≡ None) [ true ↦ refl | false ↦ refl ]))

pub leaves_single : (rows : List Use) (walker : ℕ) → IsSingle rows → IsSingle (left walker rows)
leaves_single [] walker single = tt
leaves_single (r ∷ rows) walker single = by_test (r.walker == walker) (leaves_single rows walker single.1)
  where
    by_test : (b : Bool) → IsSingle (left walker rows) → IsSingle (cond (not b) (r ∷ left walker rows) (left walker rows))
    by_test true later = later
    by_test false later = (still_free rows walker r.walker single.0, later)

-- a number beside another, and a clone of it
abbrev pub IsSamePair : ℕ × ℕ → ℕ × ℕ → Type 0
IsSamePair p q = (q.0 ≡ p.0) × (q.1 ≡ p.1)

-- the clone of the counts has the same
pub same_counts : (es fs : List (ℕ × ℕ)) → AllZip IsSamePair es fs → fs ≡ es
same_counts es fs clones = same_from_all_zip IsSamePair es fs clones (λ p q h. (λ i. (h.0 i, h.1 i)))

-- ---- who is inside a mount
