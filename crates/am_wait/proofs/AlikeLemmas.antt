-- Two tables that are the same, row by row and walker by walker.
use Rattle.std.proofs.Common.{◌≡◌, ℕ, zero, suc, ◌+◌, ◌<◌, Bool, true, false, cond, ◌==◌, List, [], ◌∷◌, length, take, map, get_or, Option, Some, None, refl, sym, ap, subst, ◌∙◌, inl, inr, arith}
use Rattle.std.specs.Prelude.{All, find, nat_eq}
use Rattle.std.specs.Map.{lookup}
use Rattle.std.specs.Option.{option_map}
use Rattle.std.proofs.lemmas.Bool.{cases_lt}
use Rattle.std.proofs.lemmas.Bool.Decides.{nat_tests, Decides-eqb}
use Rattle.std.proofs.lemmas.Option.{same_Some, none-some}
use Rattle.slab.specs.Slab.{Slab}
use Rattle.am_names.specs.{RiseBy, WaitRow}
use Rattle.am_names.proofs.Basics.{found_passes}
use Rattle.std.proofs.lemmas.List.Elements.{All-head, All-tail}
use Rattle.am_wait.specs.{Seat, seat_of, key_of, its_wait, HasSameWait, IsSeat, row_at, row_in, waits_in, wait_of}
use Rattle.am_wait.specs.View.{rows_of, IsKept}
use Rattle.am_wait.specs.declared.waits.Waits.TheInside.{Inside}
use Rattle.am_wait.specs.Seats.{wait_at}
use Rattle.am_wait.specs.Seating.{seats_in}
use Rattle.am_wait.proofs.FindLemmas.{absent}
use Rattle.am_wait.proofs.KeptLemmas.{all_find, all_found, wait_found}
use Rattle.am_wait.proofs.SeatingLemmas.{key_found, seats_rise}

-- ---- row by row

module _ {X : Type 0} where
  -- it holds of those before a row, and of the row
  pub one_more_within : (P : X → Type 0) (xs : List X) (i : ℕ) → ((k : ℕ) (d : X) → k < i → P (get_or xs k d)) → ((d : X) → P (get_or xs i d)) →
      (k : ℕ) (d : X) → k < i + 1 → P (get_or xs k d)
  one_more_within P xs i h p k d less =
      elim (cases_lt k i) [
        | inl below ↦ h k d below
        | inr above ↦
            let is : i ≡ k = omega (arith, less, above) in
            subst (λ (n : ℕ). P (get_or xs n d)) is (p d)
      ]

module _ {X Y Z : Type 0} (f : X → Z) (g : Y → Z) where
  mapped_alike : (xs : List X) (ys : List Y) (i : ℕ) (d : X) (e : Y) → i < length xs → i < length ys →
      take i (map f xs) ≡ take i (map g ys) → f (get_or xs i d) ≡ g (get_or ys i e) → take (suc i) (map f xs) ≡ take (suc i) (map g ys)
  mapped_alike [] ys i d e less below h same = absurd (omega (arith, less))
  mapped_alike (x ∷ xs) [] i d e less below h same = absurd (omega (arith, below))
  mapped_alike (x ∷ xs) (y ∷ ys) zero d e less below h same = ap (λ z. z ∷ []) same
  mapped_alike (x ∷ xs) (y ∷ ys) (suc i) d e less below h same =
      let first : f x ≡ g y = cc in
      let before : take i (map f xs) ≡ take i (map g ys) = cc in
      let others : take (suc i) (map f xs) ≡ take (suc i) (map g ys) = mapped_alike xs ys i d e (omega (arith, less)) (omega (arith, below)) before same in
      cc

  -- what those before a row stand for is the same, and so is what the row does
  pub one_more_mapped : (xs : List X) (ys : List Y) (i : ℕ) (d : X) (e : Y) → i < length xs → i < length ys →
      take i (map f xs) ≡ take i (map g ys) → f (get_or xs i d) ≡ g (get_or ys i e) → take (i + 1) (map f xs) ≡ take (i + 1) (map g ys)
  one_more_mapped xs ys i d e less below h same =
      let next : i + 1 ≡ suc i = omega arith in
      ap (λ (n : ℕ). take n (map f xs)) next ∙ mapped_alike xs ys i d e less below h same ∙ ap (λ (n : ℕ). take n (map g ys)) (sym next)

  -- where the lists stand for the same, so does each row
  pub each_mapped : (xs : List X) (ys : List Y) (i : ℕ) (d : X) (e : Y) → i < length xs → i < length ys → map f xs ≡ map g ys → f (get_or xs i d) ≡ g (get_or ys i e)
  each_mapped [] ys i d e less below h = absurd (omega (arith, less))
  each_mapped (x ∷ xs) [] i d e less below h = absurd (omega (arith, below))
  each_mapped (x ∷ xs) (y ∷ ys) zero d e less below h = cc
  each_mapped (x ∷ xs) (y ∷ ys) (suc i) d e less below h =
      let others : map f xs ≡ map g ys = cc in
      each_mapped xs ys i d e (omega (arith, less)) (omega (arith, below)) others

-- ---- rows that rise are known by what is found

module _ {X : Type 0} (key : X → ℕ) where
  its_row : (x : X) (xs : List X) → find (λ r. key r == key x) (x ∷ xs) ≡ Some x
  its_row x xs = rw ((Decides-eqb (key x) (key x)).1 refl) refl

  later_row : (x y : X) (xs ys : List X) → key x ≡ key y → RiseBy key (key x + 1) xs → RiseBy key (key y + 1) ys →
      ((w : ℕ) → find (λ r. key r == w) (x ∷ xs) ≡ find (λ r. key r == w) (y ∷ ys)) → (w : ℕ) (b : Bool) → (key x == w) ≡ b → find (λ r. key r == w) xs ≡ find (λ r. key r == w) ys
  later_row x y xs ys is h g same w true e =
      absent key w (key x + 1) xs h (grind (arith, nat_tests, e)) ∙ sym (absent key w (key y + 1) ys g (grind (arith, nat_tests, e, is)))
  later_row x y xs ys is h g same w false e =
      let other : (key y == w) ≡ false = ap (λ (n : ℕ). n == w) (sym is) ∙ e in
      sym (ap (λ (b : Bool). cond b (Some x) (find (λ r. key r == w) xs)) e) ∙ same w ∙ ap (λ (b : Bool). cond b (Some y) (find (λ r. key r == w) ys)) other

  pub same_rising : (low other : ℕ) (xs ys : List X) → RiseBy key low xs → RiseBy key other ys → ((w : ℕ) → find (λ r. key r == w) xs ≡ find (λ r. key r == w) ys) → xs ≡ ys
  same_rising low other [] [] h g same = refl
  same_rising low other [] (y ∷ ys) h g same = absurd (none-some y (same (key y) ∙ its_row y ys))
  same_rising low other (x ∷ xs) [] h g same = absurd (none-some x (sym (same (key x)) ∙ its_row x xs))
  same_rising low other (x ∷ xs) (y ∷ ys) h g same =
      elim (cases_lt (key x) (key y)) [
        | inl less ↦ absurd (none-some x (sym (absent key (key x) (key y) (y ∷ ys) (omega arith, g.1) less) ∙ sym (same (key x)) ∙ its_row x xs))
        | inr more ↦
            elim (cases_lt (key y) (key x)) [
              | inl less ↦ absurd (none-some y (sym (absent key (key y) (key x) (x ∷ xs) (omega arith, h.1) less) ∙ same (key y) ∙ its_row y ys))
              | inr le ↦
                  let is : key x ≡ key y = omega (arith, more, le) in
                  let first : x ≡ y = same_Some x y (sym (its_row x xs) ∙ same (key x) ∙ ap (λ (n : ℕ). find (λ r. key r == n) (y ∷ ys)) is ∙ its_row y ys) in
                  ap (λ r. r ∷ xs) first ∙ ap (λ others. y ∷ others) (same_rising (key x + 1) (key y + 1) xs ys h.1 g.1 (λ w. later_row x y xs ys is h.1 g.1 same w (key x == w) refl))
            ]
      ]

-- ---- waits by their seats

-- what holds of each walker that has an entry holds of one that is looked up
looked_up : (P : ℕ → Type 0) (entries : List (ℕ × ℕ)) (w v : ℕ) → All (λ e. P e.0) entries → lookup (nat_eq w) entries ≡ Some v → P w
looked_up P [] w v h found = absurd (none-some v found)
looked_up P (e ∷ es) w v h found = by_test (nat_eq w e.0) refl found (looked_up P es w v (All-tail (λ (x : ℕ × ℕ). P x.0) e es h))
  where
    by_test : (b : Bool) → nat_eq w e.0 ≡ b → cond b (Some e.1) (lookup (nat_eq w) es) ≡ Some v → (lookup (nat_eq w) es ≡ Some v → P w) → P w
    by_test true t f later = subst P (grind (arith, nat_tests, t)) (All-head (λ (x : ℕ × ℕ). P x.0) e es h)
    by_test false t f later = later f

-- each walker that has an entry is looked up
present : (entries : List (ℕ × ℕ)) (k : ℕ) (d : ℕ × ℕ) → k < length entries → (v : ℕ) × (lookup (nat_eq (get_or entries k d).0) entries ≡ Some v)
present [] k d less = absurd (omega (arith, less))
present (e ∷ es) zero d less =
    let itself : nat_eq e.0 e.0 ≡ true = grind (arith, nat_tests) in
    (e.1, rw itself refl)
present (e ∷ es) (suc k) d less = by_test (nat_eq (get_or es k d).0 e.0) refl (present es k d (omega (arith, less)))
  where
    by_test : (b : Bool) → nat_eq (get_or es k d).0 e.0 ≡ b → (v : ℕ) × (lookup (nat_eq (get_or es k d).0) es ≡ Some v) → (v : ℕ) × (lookup (nat_eq (get_or es k d).0) (e ∷ es) ≡ Some v)
    by_test true t later = (e.1, rw t refl)
    by_test false t later = (later.0, rw t later.1)

seat_there : (seats : List Seat) (w v : ℕ) → key_of seats w ≡ Some v → (seat : Seat) × (seat_of seats w ≡ Some seat)
seat_there seats w v e = by_seat (seat_of seats w) refl e
  where
    by_seat : (o : Option Seat) → seat_of seats w ≡ o → option_map (λ (s : Seat). s.key) o ≡ Some v → (seat : Seat) × (seat_of seats w ≡ Some seat)
    by_seat None f g = absurd (none-some v g)
    by_seat (Some seat) f g = (seat, f)

its_walker : (seats : List Seat) (w : ℕ) (seat : Seat) → seat_of seats w ≡ Some seat → seat.walker ≡ w
its_walker seats w seat e = (Decides-eqb seat.walker w).0 (found_passes (λ (s : Seat). s.walker == w) seats seat e)

-- what holds of each walker that has an entry holds of each that has a seat
pub seats_where : (P : ℕ → Type 0) (entries : List (ℕ × ℕ)) → All (λ e. P e.0) entries → All (λ s. P s.walker) (seats_in entries)
seats_where P entries h =
    all_found (λ (s : Seat). P s.walker) (λ (s : Seat). s.walker) 0 (seats_in entries) (seats_rise entries)
    (λ s e. looked_up P entries s.walker s.key h (sym (key_found entries s.walker) ∙ ap (option_map (λ (x : Seat). x.key)) e))

-- and the other way round
pub entries_where : (P : ℕ → Type 0) (entries : List (ℕ × ℕ)) → All (λ s. P s.walker) (seats_in entries) → All (λ e. P e.0) entries
entries_where P entries h = λ k d less.
    let w : ℕ = (get_or entries k d).0 in
    let there = present entries k d less in
    let seat = seat_there (seats_in entries) w there.0 (key_found entries w ∙ there.1) in
    subst P (its_walker (seats_in entries) w seat.0 seat.1) (all_find (λ (s : Seat). P s.walker) (λ (s : Seat). s.walker == w) (seats_in entries) seat.0 h seat.1)

-- a walker's wait is the one at its seat
waits_by_seats : (slab : Slab WaitRow) (seats : List Seat) (w : ℕ) → All (IsSeat slab) seats → wait_of (waits_in slab seats) w ≡ its_wait slab seats w
waits_by_seats slab seats w h = wait_found slab seats w h ∙ by_seat (seat_of seats w) refl
  where
    by_seat : (o : Option Seat) → seat_of seats w ≡ o → option_map (λ (s : Seat). row_at slab s.key) o ≡ wait_at slab (option_map (λ (s : Seat). s.key) o)
    by_seat None e = refl
    by_seat (Some seat) e =
        let its = all_find (IsSeat slab) (λ (s : Seat). s.walker == w) seats seat h e in
        ap (λ (o : Option WaitRow). Some (row_in o)) its.1 ∙ sym its.1

module _ (slab others : Slab WaitRow) (seats other_seats : List Seat) where
  -- where each of both has the same wait, all walkers have
  each_walker :
      All (λ s. HasSameWait slab seats others other_seats s.walker) seats → All (λ s. HasSameWait others other_seats slab seats s.walker) other_seats →
      (w : ℕ) → its_wait slab seats w ≡ its_wait others other_seats w
  each_walker h g w = by_seat (seat_of seats w) refl (seat_of other_seats w) refl
    where
      by_seat : (o : Option Seat) → seat_of seats w ≡ o → (p : Option Seat) → seat_of other_seats w ≡ p → its_wait slab seats w ≡ its_wait others other_seats w
      by_seat (Some seat) e p f =
          subst (λ (n : ℕ). its_wait slab seats n ≡ its_wait others other_seats n) (its_walker seats w seat e)
          (all_find (λ (s : Seat). HasSameWait slab seats others other_seats s.walker) (λ (s : Seat). s.walker == w) seats seat h e)
      by_seat None e (Some seat) f =
          sym (subst (λ (n : ℕ). its_wait others other_seats n ≡ its_wait slab seats n) (its_walker other_seats w seat f)
          (all_find (λ (s : Seat). HasSameWait others other_seats slab seats s.walker) (λ (s : Seat). s.walker == w) other_seats seat g f))
      by_seat None e None f =
          ap (λ (o : Option Seat). wait_at slab (option_map (λ (s : Seat). s.key) o)) e
          ∙ sym (ap (λ (o : Option Seat). wait_at others (option_map (λ (s : Seat). s.key) o)) f)

-- tables in which each walker has the same wait have the same waits
pub same_waits : (i j : Inside) → IsKept i → IsKept j →
    All (λ s. HasSameWait i.slab i.seats.rows j.slab j.seats.rows s.walker) i.seats.rows → All (λ s. HasSameWait j.slab j.seats.rows i.slab i.seats.rows s.walker) j.seats.rows →
    (rows_of i).waits ≡ (rows_of j).waits
same_waits i j k l h g =
    same_rising (λ (r : WaitRow). r.walker) 0 0 (rows_of i).waits (rows_of j).waits k.sound.waits l.sound.waits (λ w.
    waits_by_seats i.slab i.seats.rows w k.linked.seated
    ∙ each_walker i.slab j.slab i.seats.rows j.seats.rows h g w
    ∙ sym (waits_by_seats j.slab j.seats.rows w l.linked.seated))

-- and the other way round
pub each_has_same : (i j : Inside) → IsKept i → IsKept j → (rows_of i).waits ≡ (rows_of j).waits →
    All (λ s. HasSameWait i.slab i.seats.rows j.slab j.seats.rows s.walker) i.seats.rows
each_has_same i j k l same = λ n d less.
    let w : ℕ = (get_or i.seats.rows n d).walker in
    sym (waits_by_seats i.slab i.seats.rows w k.linked.seated)
    ∙ ap (λ (waits : List WaitRow). wait_of waits w) same
    ∙ waits_by_seats j.slab j.seats.rows w l.linked.seated
