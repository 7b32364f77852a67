-- The wait of a walker goes, and its key is free.
use Rattle.std.proofs.Common.{◌≡◌, ℕ, Bool, true, false, cond, not, ◌==◌, List, [], ◌∷◌, Option, Some, None, refl, sym, ap, ◌∙◌}
use Rattle.std.specs.Prelude.{filter, All}
use Rattle.std.proofs.lemmas.Bool.Decides.{Decides-eqb}
use Rattle.std.proofs.lemmas.List.Elements.{All-head, All-tail, All-nil, All-cons, All-weaker}
use Rattle.slab.specs.Slab.{Slab, get}
use Rattle.am_names.specs.{WaitRow}
use Rattle.am_wait.specs.{Seat, without_wait, row_at, row_in, waits_in, without_seat, IsSeat}
use Rattle.am_wait.proofs.KeptLemmas.{filter_mapped, map_same}

-- what passed the filter passes its test
pub all_passed : {X : Type 0} (P : X → Type 0) (p : X → Bool) (xs : List X) → All P xs → All (λ x. P x × (p x ≡ true)) (filter p xs)
all_passed P p [] h = All-nil (λ x. P x × (p x ≡ true))
all_passed {X = X} P p (x ∷ xs) h = by_test (p x) refl (all_passed P p xs (All-tail P x xs h))
  where
    by_test : (b : Bool) → p x ≡ b → All (λ y. P y × (p y ≡ true)) (filter p xs) → All (λ y. P y × (p y ≡ true)) (cond b (x ∷ filter p xs) (filter p xs))
    by_test true e later = All-cons (λ y. P y × (p y ≡ true)) x (filter p xs) (All-head P x xs h, e) later
    by_test false e later = later

module _ (old new : Slab WaitRow) (key : ℕ) (freed : (k : ℕ) → get new k ≡ cond (key == k) None (get old k)) where
  -- the seat of another walker has another key
  other_key : (row : WaitRow) (walker : ℕ) (seat : Seat) (b : Bool) → get old key ≡ Some row → row.walker ≡ walker → IsSeat old seat → not (seat.walker == walker) ≡ true → (key == seat.key) ≡ b → b ≡ false
  other_key row walker seat false there w h apart e = refl
  other_key row walker seat true there w h apart e =
      let same : key ≡ seat.key = (Decides-eqb key seat.key).0 e in
      let one : (row_in (get old key)).walker ≡ walker = ap (λ (o : Option WaitRow). (row_in o).walker) there ∙ w in
      let two : (row_in (get old seat.key)).walker ≡ seat.walker = ap (λ (o : Option WaitRow). (row_in o).walker) h.1 ∙ h.2 in
      let its : seat.walker ≡ walker = sym two ∙ ap (λ (k : ℕ). (row_in (get old k)).walker) (sym same) ∙ one in
      absurd (cc (sym apart ∙ ap not ((Decides-eqb seat.walker walker).1 its)))

  pub other_row : (row : WaitRow) (walker : ℕ) (seat : Seat) → get old key ≡ Some row → row.walker ≡ walker → IsSeat old seat × (not (seat.walker == walker) ≡ true) → get new seat.key ≡ get old seat.key
  other_row row walker seat there w h = freed seat.key ∙ ap (λ b. cond b None (get old seat.key)) (other_key row walker seat (key == seat.key) there w h.0 h.1 refl)

  -- the waits of the others are as they were
  pub collected_waits : (row : WaitRow) (walker : ℕ) (seats : List Seat) → get old key ≡ Some row → row.walker ≡ walker → All (IsSeat old) seats → waits_in new (without_seat walker seats) ≡ without_wait walker (waits_in old seats)
  collected_waits row walker seats there w h =
      map_same (λ (s : Seat). row_at new s.key) (λ (s : Seat). row_at old s.key) (without_seat walker seats)
      (All-weaker (λ (s : Seat). IsSeat old s × (not (s.walker == walker) ≡ true)) (λ (s : Seat). row_at new s.key ≡ row_at old s.key) (λ s e. ap row_in (other_row row walker s there w e)) (without_seat walker seats) (all_passed (IsSeat old) (λ (s : Seat). not (s.walker == walker)) seats h))
      ∙ filter_mapped (λ (s : Seat). row_at old s.key) (λ (s : Seat). not (s.walker == walker)) (λ (r : WaitRow). not (r.walker == walker)) seats
      (All-weaker (IsSeat old) (λ (s : Seat). not ((row_at old s.key).walker == walker) ≡ not (s.walker == walker)) (λ s e. ap (λ (n : ℕ). not (n == walker)) (ap (λ (o : Option WaitRow). (row_in o).walker) e.1 ∙ e.2)) seats h)

  -- the others still have their seats
  pub others_seated : (row : WaitRow) (walker : ℕ) (seats : List Seat) → get old key ≡ Some row → row.walker ≡ walker → All (IsSeat old) seats → All (IsSeat new) (without_seat walker seats)
  others_seated row walker seats there w h =
      All-weaker (λ (s : Seat). IsSeat old s × (not (s.walker == walker) ≡ true)) (IsSeat new) (λ s e. (e.0.0, other_row row walker s there w e ∙ e.0.1, e.0.2)) (without_seat walker seats) (all_passed (IsSeat old) (λ (s : Seat). not (s.walker == walker)) seats h)
