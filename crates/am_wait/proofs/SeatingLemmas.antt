-- Entries in any order, and the seats in rising order of walkers that they stand for.
use Rattle.std.proofs.Common.{◌≡◌, ℕ, zero, suc, ◌+◌, ◌<◌, ◌≤◌, Bool, true, false, cond, not, ◌==◌, ◌||◌, List, [], ◌∷◌, length, Some, None, refl, sym, ap, ◌∙◌, inl, inr, arith}
use Rattle.std.specs.Prelude.{nat_eq, nat_le, insert}
use Rattle.std.specs.Option.{option_map}
use Rattle.std.specs.List.{list_any, position_or_len, AllByRecursion, IsDistinct}
use Rattle.std.specs.Map.{keys_of, values_of, lookup}
use Rattle.std.proofs.lemmas.Bool.{cases_lt}
use Rattle.std.proofs.lemmas.Bool.Decides.{nat_tests, Decides-eqb}
use Rattle.std.proofs.lemmas.List.Edits.{length-insert}
use Rattle.am_names.specs.{RiseBy}
use Rattle.am_wait.specs.{Seat, seat_of, key_of, with_seat, without_seat, seat_at, sits_at, among_keys}
use Rattle.am_wait.specs.Seating.{seats_in}
use Rattle.am_wait.proofs.RowLemmas.{rises_put, rises_filter, put_new, position_fits}
use Rattle.am_wait.proofs.CallLemmas.{none_there}
use Rattle.am_wait.proofs.FindLemmas.{absent, found_where_put, find_gone, find_kept, both_ways, the_one}
use Rattle.am_wait.proofs.SeatLemmas.{no_key}

flipped : (a b : ℕ) → nat_eq a b ≡ (b == a)
flipped a b = grind (arith, nat_tests)

pub seats_rise : (entries : List (ℕ × ℕ)) → RiseBy (λ (s : Seat). s.walker) 0 (seats_in entries)
seats_rise [] = tt
seats_rise (entry ∷ entries) = rises_put (λ (s : Seat). s.walker) 0 (seat_at entry.0 entry.1) (seats_in entries) (seats_rise entries) (omega arith)

-- ---- what is found

-- the seat that is put is found, and each other one as before
pub key_put : (seat : Seat) (seats : List Seat) (k : ℕ) (b : Bool) → (seat.walker == k) ≡ b → key_of (with_seat seat seats) k ≡ cond b (Some seat.key) (key_of seats k)
key_put seat seats k b e =
    ap (option_map (λ (s : Seat). s.key)) (found_where_put (λ (s : Seat). s.walker) seat seats k b e)
    ∙ (elim b as (λ c. option_map (λ (s : Seat). s.key) (cond c (Some seat) (seat_of seats k)) ≡ cond c (Some seat.key) (key_of seats k)) [ true ↦ refl | false ↦ refl ])

-- the seat that is taken away is gone, and each other one is there as before
pub key_taken : (walker : ℕ) (seats : List Seat) (k : ℕ) (b : Bool) → (walker == k) ≡ b → key_of (without_seat walker seats) k ≡ cond b None (key_of seats k)
key_taken walker seats k true e = ap (option_map (λ (s : Seat). s.key)) (find_gone (λ (s : Seat). s.walker == k) (λ s. not (s.walker == walker)) (λ s t. the_one s.walker walker k t e) seats)
key_taken walker seats k false e = ap (option_map (λ (s : Seat). s.key)) (find_kept (λ (s : Seat). s.walker == k) (λ s. not (s.walker == walker)) (λ s t. both_ways s.walker walker k t e) seats)

-- a walker has the seat of its entry
pub key_found : (entries : List (ℕ × ℕ)) (walker : ℕ) → key_of (seats_in entries) walker ≡ lookup (nat_eq walker) entries
key_found [] walker = refl
key_found (entry ∷ entries) walker =
    key_put (seat_at entry.0 entry.1) (seats_in entries) walker (entry.0 == walker) refl
    ∙ ap (cond (entry.0 == walker) (Some entry.1)) (key_found entries walker)
    ∙ ap (λ (b : Bool). cond b (Some entry.1) (lookup (nat_eq walker) entries)) (sym (flipped walker entry.0))

-- ---- seats that rise are known by what is found

key_first : (x : Seat) (xs : List Seat) (w : ℕ) (b : Bool) → (x.walker == w) ≡ b → key_of (x ∷ xs) w ≡ cond b (Some x.key) (key_of xs w)
key_first x xs w b e =
    ap (λ (c : Bool). option_map (λ (s : Seat). s.key) (cond c (Some x) (seat_of xs w))) e
    ∙ (elim b as (λ c. option_map (λ (s : Seat). s.key) (cond c (Some x) (seat_of xs w)) ≡ cond c (Some x.key) (key_of xs w)) [ true ↦ refl | false ↦ refl ])

its_key : (x : Seat) (xs : List Seat) → key_of (x ∷ xs) x.walker ≡ Some x.key
its_key x xs = key_first x xs x.walker true ((Decides-eqb x.walker x.walker).1 refl)

none_below_first : (k low : ℕ) (rows : List Seat) → RiseBy (λ (s : Seat). s.walker) low rows → k < low → key_of rows k ≡ None
none_below_first k low rows h less = ap (option_map (λ (s : Seat). s.key)) (absent (λ (s : Seat). s.walker) k low rows h less)

some_is : (a b : ℕ) → Some a ≡ Some b → a ≡ b
some_is a b e = cc

same_later : (x y : Seat) (xs ys : List Seat) → x.walker ≡ y.walker → RiseBy (λ (s : Seat). s.walker) (x.walker + 1) xs → RiseBy (λ (s : Seat). s.walker) (y.walker + 1) ys →
    ((w : ℕ) → key_of (x ∷ xs) w ≡ key_of (y ∷ ys) w) → (w : ℕ) (b : Bool) → (x.walker == w) ≡ b → key_of xs w ≡ key_of ys w
same_later x y xs ys is h g same w true e =
    none_below_first w (x.walker + 1) xs h (grind (arith, nat_tests, e))
    ∙ sym (none_below_first w (y.walker + 1) ys g (grind (arith, nat_tests, e, is)))
same_later x y xs ys is h g same w false e =
    sym (key_first x xs w false e) ∙ same w ∙ key_first y ys w false (ap (λ (n : ℕ). n == w) (sym is) ∙ e)

-- lists of seats that rise are the same where each walker has the same key
pub same_seats : (low other : ℕ) (xs ys : List Seat) → RiseBy (λ (s : Seat). s.walker) low xs → RiseBy (λ (s : Seat). s.walker) other ys → ((w : ℕ) → key_of xs w ≡ key_of ys w) → xs ≡ ys
same_seats low other [] [] h g same = refl
same_seats low other [] (y ∷ ys) h g same = absurd (cc (sym (its_key y ys) ∙ sym (same y.walker)))
same_seats low other (x ∷ xs) [] h g same = absurd (cc (sym (its_key x xs) ∙ same x.walker))
same_seats low other (x ∷ xs) (y ∷ ys) h g same =
    elim (cases_lt x.walker y.walker) [
      | inl less ↦ absurd (cc (sym (its_key x xs) ∙ same x.walker ∙ none_below_first x.walker y.walker (y ∷ ys) (omega arith, g.1) less))
      | inr more ↦
          elim (cases_lt y.walker x.walker) [
            | inl less ↦ absurd (cc (sym (its_key y ys) ∙ sym (same y.walker) ∙ none_below_first y.walker x.walker (x ∷ xs) (omega arith, h.1) less))
            | inr le ↦
                let is : x.walker ≡ y.walker = omega (arith, more, le) in
                let keys : x.key ≡ y.key = some_is x.key y.key (sym (its_key x xs) ∙ same x.walker ∙ ap (key_of (y ∷ ys)) is ∙ its_key y ys) in
                let first : x ≡ y = ap (λ (n : ℕ). seat_at n x.key) is ∙ ap (seat_at y.walker) keys in
                ap (λ (s : Seat). s ∷ xs) first
                ∙ ap (λ (others : List Seat). y ∷ others) (same_seats (x.walker + 1) (y.walker + 1) xs ys h.1 g.1 (λ w. same_later x y xs ys is h.1 g.1 same w (x.walker == w) refl))
          ]
    ]

-- ---- each walker has one entry

unseen : (k : ℕ) (entries : List (ℕ × ℕ)) → AllByRecursion (λ other. nat_eq k other ≡ false) (keys_of entries) → lookup (nat_eq k) entries ≡ None
unseen k [] h = refl
unseen k (entry ∷ entries) h = rw h.0 (unseen k entries h.1)

-- the seat of a walker that has none is put before the first of a greater one
put_at : (seat : Seat) (seats : List Seat) → RiseBy (λ (s : Seat). s.walker) 0 seats → key_of seats seat.walker ≡ None → insert seats (position_or_len (λ s. nat_le seat.walker s.walker) seats) seat ≡ with_seat seat seats
put_at seat seats h none = put_new (λ (s : Seat). s.walker) seat.walker 0 seat seats h (none_there (λ (s : Seat). s.walker == seat.walker) seats (no_key seats seat.walker none))

one_longer : (n : ℕ) → n + 1 ≡ suc n
one_longer n = omega arith

pub seats_counted : (entries : List (ℕ × ℕ)) → IsDistinct nat_eq (keys_of entries) → length (seats_in entries) ≡ length entries
unfolding IsDistinct
seats_counted [] distinct = refl
seats_counted (entry ∷ entries) distinct =
    let seats = seats_in entries in
    ap length (sym (put_at (seat_at entry.0 entry.1) seats (seats_rise entries) (key_found entries entry.0 ∙ unseen entry.0 entries distinct.0)))
    ∙ length-insert seats (position_or_len (λ s. nat_le entry.0 s.walker) seats) (seat_at entry.0 entry.1) (position_fits (λ (s : Seat). nat_le entry.0 s.walker) seats)
    ∙ ap (λ (n : ℕ). n + 1) (seats_counted entries distinct.1) ∙ one_longer (length entries)

either_first : (a b c : Bool) → (a || (b || c)) ≡ (b || (a || c))
either_first true true c = refl
either_first true false c = refl
either_first false b c = refl

any_put : {X : Type 0} (test : X → Bool) (xs : List X) (at : ℕ) (x : X) → at ≤ length xs → list_any test (insert xs at x) ≡ (test x || list_any test xs)
any_put test [] zero x le = refl
any_put test [] (suc at) x le = absurd (omega (arith, le))
any_put test (y ∷ xs) zero x le = refl
any_put test (y ∷ xs) (suc at) x le = ap (λ (b : Bool). test y || b) (any_put test xs at x (omega (arith, le))) ∙ either_first (test y) (test x) (list_any test xs)

-- the keys of the seats are those of the entries
pub sits_found : (entries : List (ℕ × ℕ)) (key : ℕ) → IsDistinct nat_eq (keys_of entries) → sits_at (seats_in entries) key ≡ among_keys (values_of entries) key
unfolding IsDistinct
sits_found [] key distinct = refl
sits_found (entry ∷ entries) key distinct =
    let seats = seats_in entries in
    ap (λ (rows : List Seat). sits_at rows key) (sym (put_at (seat_at entry.0 entry.1) seats (seats_rise entries) (key_found entries entry.0 ∙ unseen entry.0 entries distinct.0)))
    ∙ any_put (λ (s : Seat). s.key == key) seats (position_or_len (λ s. nat_le entry.0 s.walker) seats) (seat_at entry.0 entry.1) (position_fits (λ (s : Seat). nat_le entry.0 s.walker) seats)
    ∙ ap (λ (b : Bool). (entry.1 == key) || b) (sits_found entries key distinct.1)

-- ---- entries that come and go

eqb_of : (a b : ℕ) → nat_eq a b ≡ (a == b)
eqb_of a b = grind (arith, nat_tests)

pub seats_put : (seat : Seat) (old new : List (ℕ × ℕ)) → ((w : ℕ) → lookup (nat_eq w) new ≡ cond (nat_eq seat.walker w) (Some seat.key) (lookup (nat_eq w) old)) → seats_in new ≡ with_seat seat (seats_in old)
seats_put seat old new h =
    same_seats 0 0 (seats_in new) (with_seat seat (seats_in old)) (seats_rise new)
    (rises_put (λ (s : Seat). s.walker) 0 seat (seats_in old) (seats_rise old) (omega arith))
    (λ w. key_found new w ∙ h w
    ∙ ap (λ (b : Bool). cond b (Some seat.key) (lookup (nat_eq w) old)) (eqb_of seat.walker w)
    ∙ ap (cond (seat.walker == w) (Some seat.key)) (sym (key_found old w))
    ∙ sym (key_put seat (seats_in old) w (seat.walker == w) refl))

pub seats_taken : (walker : ℕ) (old new : List (ℕ × ℕ)) → ((w : ℕ) → lookup (nat_eq w) new ≡ cond (nat_eq walker w) None (lookup (nat_eq w) old)) → seats_in new ≡ without_seat walker (seats_in old)
seats_taken walker old new h =
    same_seats 0 0 (seats_in new) (without_seat walker (seats_in old)) (seats_rise new)
    (rises_filter (λ (s : Seat). s.walker) (λ s. not (s.walker == walker)) 0 (seats_in old) (seats_rise old))
    (λ w. key_found new w ∙ h w
    ∙ ap (λ (b : Bool). cond b None (lookup (nat_eq w) old)) (eqb_of walker w)
    ∙ ap (cond (walker == w) None) (sym (key_found old w))
    ∙ sym (key_taken walker (seats_in old) w (walker == w) refl))
