-- A wait is put at a key that is free.
use Rattle.std.proofs.Common.{◌≡◌, ℕ, Bool, true, false, cond, ◌==◌, List, [], ◌∷◌, ◌++◌, Option, Some, None, refl, sym, ap, ◌∙◌}
use Rattle.std.specs.Prelude.{filter, map, All, nat_lt}
use Rattle.std.specs.Option.{option_map}
use Rattle.std.proofs.lemmas.Bool.Decides.{Decides-eqb}
use Rattle.std.proofs.lemmas.List.Elements.{All-head, All-tail, All-nil, All-cons, All-append, All-filter, All-weaker}
use Rattle.slab.specs.Slab.{Slab, get}
use Rattle.am_names.specs.{WaitRow}
use Rattle.am_names.proofs.Basics.{some_injective, none_is_not_some, found_passes}
use Rattle.am_wait.specs.{Seat, HeldToken, with_wait, with_waiter, joined_row, seat_of, key_of, row_at, row_in, walkers_at, waits_in, with_seat, seat_at, IsSeat, token_in, tokens_in, joined_key, with_key, HasKeys}
use Rattle.am_wait.proofs.FindLemmas.{found_where_put}
use Rattle.am_wait.proofs.KeptLemmas.{filter_mapped, map_same, all_find}

pub map_around : {X Y : Type 0} (f : X → Y) (xs : List X) (y : X) (ys : List X) → map f (xs ++ y ∷ ys) ≡ map f xs ++ f y ∷ map f ys
map_around f [] y ys = refl
map_around f (x ∷ xs) y ys = ap (λ others. f x ∷ others) (map_around f xs y ys)

-- the wait that the key of a walker leads to
pub has_wait : (slab : Slab WaitRow) (seats : List Seat) (k n : ℕ) → All (IsSeat slab) seats → key_of seats k ≡ Some n → (row : WaitRow) × (get slab n ≡ Some row) × (row.walker ≡ k)
has_wait slab seats k n h e = by_seat (seat_of seats k) refl e
  where
    by_seat : (o : Option Seat) → seat_of seats k ≡ o → option_map (λ (s : Seat). s.key) o ≡ Some n → (row : WaitRow) × (get slab n ≡ Some row) × (row.walker ≡ k)
    by_seat None f g = absurd (none_is_not_some n g)
    by_seat (Some seat) f g =
        let is = all_find (IsSeat slab) (λ (s : Seat). s.walker == k) seats seat h f in
        let same : seat.key ≡ n = some_injective g in
        let its : seat.walker ≡ k = (Decides-eqb seat.walker k).0 (found_passes (λ (s : Seat). s.walker == k) seats seat f) in
        (is.0, ap (get slab) (sym same) ∙ is.1, is.2 ∙ its)

module _ (old new : Slab WaitRow) (key : ℕ) (wait : WaitRow) (vacant : get old key ≡ None) (put : (n : ℕ) → get new n ≡ cond (key == n) (Some wait) (get old n)) where
  vacant_key_is_unused : (n : ℕ) (row : WaitRow) (b : Bool) → get old n ≡ Some row → (key == n) ≡ b → b ≡ false
  vacant_key_is_unused n row false e f = refl
  vacant_key_is_unused n row true e f = absurd (none_is_not_some row (sym vacant ∙ ap (get old) ((Decides-eqb key n).0 f) ∙ e))

  -- a key that has a wait still has it
  used : (n : ℕ) (row : WaitRow) → get old n ≡ Some row → get new n ≡ Some row
  used n row e = put n ∙ ap (λ b. cond b (Some wait) (get old n)) (vacant_key_is_unused n row (key == n) e refl) ∙ e

  there : get new key ≡ Some wait
  there = put key ∙ ap (λ b. cond b (Some wait) (get old key)) ((Decides-eqb key key).1 refl)

  pub row_there : row_at new key ≡ wait
  row_there = ap row_in there

  used_row : (n : ℕ) (row : WaitRow) → get old n ≡ Some row → row_at new n ≡ row_at old n
  used_row n row e = ap row_in (used n row e ∙ sym e)

  used_seat : (seat : Seat) → IsSeat old seat → IsSeat new seat
  used_seat seat h = (h.0, used seat.key h.0 h.1, h.2)

  part : (p : Seat → Bool) (q : WaitRow → Bool) → ((s : Seat) → IsSeat old s → q (row_at old s.key) ≡ p s) → (seats : List Seat) → All (IsSeat old) seats → waits_in new (filter p seats) ≡ filter q (waits_in old seats)
  part p q agree seats h =
      map_same (λ (s : Seat). row_at new s.key) (λ (s : Seat). row_at old s.key) (filter p seats)
      (All-filter p (λ (s : Seat). row_at new s.key ≡ row_at old s.key) seats (All-weaker (IsSeat old) (λ (s : Seat). row_at new s.key ≡ row_at old s.key) (λ s e. used_row s.key e.0 e.1) seats h))
      ∙ filter_mapped (λ (s : Seat). row_at old s.key) p q seats (All-weaker (IsSeat old) (λ (s : Seat). q (row_at old s.key) ≡ p s) agree seats h)

  its_walker : (s : Seat) → IsSeat old s → (row_at old s.key).walker ≡ s.walker
  its_walker s e = ap (λ (o : Option WaitRow). (row_in o).walker) e.1 ∙ e.2

  -- the wait stands at its place among the others
  pub put_waits : (seats : List Seat) → All (IsSeat old) seats → waits_in new (with_seat (seat_at wait.walker key) seats) ≡ with_wait wait (waits_in old seats)
  put_waits seats h =
      let low = part (λ s. nat_lt s.walker wait.walker) (λ r. nat_lt r.walker wait.walker) (λ s e. ap (λ (n : ℕ). nat_lt n wait.walker) (its_walker s e)) seats h in
      let high = part (λ s. nat_lt wait.walker s.walker) (λ r. nat_lt wait.walker r.walker) (λ s e. ap (λ (n : ℕ). nat_lt wait.walker n) (its_walker s e)) seats h in
      map_around (λ (s : Seat). row_at new s.key) (filter (λ (s : Seat). nat_lt s.walker wait.walker) seats) (seat_at wait.walker key) (filter (λ (s : Seat). nat_lt wait.walker s.walker) seats)
      ∙ ap (λ (rows : List WaitRow). rows ++ row_at new key ∷ waits_in new (filter (λ (s : Seat). nat_lt wait.walker s.walker) seats)) low
      ∙ ap (λ (row : WaitRow). filter (λ (r : WaitRow). nat_lt r.walker wait.walker) (waits_in old seats) ++ row ∷ waits_in new (filter (λ (s : Seat). nat_lt wait.walker s.walker) seats)) row_there
      ∙ ap (λ (rows : List WaitRow). filter (λ (r : WaitRow). nat_lt r.walker wait.walker) (waits_in old seats) ++ wait ∷ rows) high

  pub put_seated : (seats : List Seat) → All (IsSeat old) seats → All (IsSeat new) (with_seat (seat_at wait.walker key) seats)
  put_seated seats h =
      let all = All-weaker (IsSeat old) (IsSeat new) used_seat seats h in
      All-append (IsSeat new) (filter (λ (s : Seat). nat_lt s.walker wait.walker) seats) (seat_at wait.walker key ∷ filter (λ (s : Seat). nat_lt wait.walker s.walker) seats)
      (All-filter (λ (s : Seat). nat_lt s.walker wait.walker) (IsSeat new) seats all)
      (All-cons (IsSeat new) (seat_at wait.walker key) (filter (λ (s : Seat). nat_lt wait.walker s.walker) seats) (wait, there, refl) (All-filter (λ (s : Seat). nat_lt wait.walker s.walker) (IsSeat new) seats all))

  module _ (seats : List Seat) (seated : All (IsSeat old) seats) where
    kept_row : (row : HeldToken) → HasKeys old seats row → (n : ℕ) → key_of seats (row_at old n).walker ≡ Some n → row_at new n ≡ row_at old n
    kept_row row has n e =
        let is = has_wait old seats (row_at old n).walker n seated e in
        used_row n is.0 is.1

    kept_walkers : (row : HeldToken) → HasKeys old seats row → walkers_at new row.keys ≡ walkers_at old row.keys
    kept_walkers row has =
        map_same (λ n. (row_at new n).walker) (λ n. (row_at old n).walker) row.keys (All-weaker (λ n. key_of seats (row_at old n).walker ≡ Some n) (λ n. (row_at new n).walker ≡ (row_at old n).walker) (λ n e. ap (λ (r : WaitRow). r.walker) (kept_row row has n e)) row.keys has)

    kept_token : (row : HeldToken) → HasKeys old seats row → token_in new row ≡ token_in old row
    kept_token row has = ap (λ (walkers : List ℕ). record { token = row.token; trigger = row.trigger; kind = row.kind; waiters = walkers }) (kept_walkers row has)

    pub kept_tokens : (tokens : List HeldToken) → All (HasKeys old seats) tokens → tokens_in new tokens ≡ tokens_in old tokens
    kept_tokens tokens has = map_same (token_in new) (token_in old) tokens (All-weaker (HasKeys old seats) (λ (r : HeldToken). token_in new r ≡ token_in old r) kept_token tokens has)

    joined_token : (row : HeldToken) → HasKeys old seats row → token_in new (joined_key row key) ≡ joined_row (token_in old row) wait.walker
    joined_token row has =
        ap (λ (walkers : List ℕ). record { token = row.token; trigger = row.trigger; kind = row.kind; waiters = walkers })
        (map_around (λ n. (row_at new n).walker) row.keys key [] ∙ ap (λ (walkers : List ℕ). walkers ++ (row_at new key).walker ∷ []) (kept_walkers row has) ∙ ap (λ (r : WaitRow). walkers_at old row.keys ++ r.walker ∷ []) row_there)

    -- the walker is the last that waits on the token
    pub joined_tokens : (t : ℕ) (tokens : List HeldToken) → All (HasKeys old seats) tokens → tokens_in new (with_key t key tokens) ≡ with_waiter t wait.walker (tokens_in old tokens)
    joined_tokens t [] has = refl
    joined_tokens t (row ∷ tokens) has = by_test (row.token == t) (All-head (HasKeys old seats) row tokens has) (All-tail (HasKeys old seats) row tokens has) (joined_tokens t tokens (All-tail (HasKeys old seats) row tokens has))
      where
        by_test : (b : Bool) → HasKeys old seats row → All (HasKeys old seats) tokens → tokens_in new (with_key t key tokens) ≡ with_waiter t wait.walker (tokens_in old tokens) →
            tokens_in new (cond b (joined_key row key ∷ tokens) (row ∷ with_key t key tokens)) ≡ cond b (joined_row (token_in old row) wait.walker ∷ tokens_in old tokens) (token_in old row ∷ with_waiter t wait.walker (tokens_in old tokens))
        by_test true here others later = rw (joined_token row here, kept_tokens tokens others) refl
        by_test false here others later = rw (kept_token row here, later) refl

    module _ (idle : key_of seats wait.walker ≡ None) where
      apart : (w n : ℕ) (b : Bool) → key_of seats w ≡ Some n → (wait.walker == w) ≡ b → b ≡ false
      apart w n false e f = refl
      apart w n true e f = absurd (none_is_not_some n (sym idle ∙ ap (key_of seats) ((Decides-eqb wait.walker w).0 f) ∙ e))

      key_put : (w : ℕ) (b : Bool) → (wait.walker == w) ≡ b → key_of (with_seat (seat_at wait.walker key) seats) w ≡ option_map (λ (s : Seat). s.key) (cond b (Some (seat_at wait.walker key)) (seat_of seats w))
      key_put w b e = ap (option_map (λ (s : Seat). s.key)) (found_where_put (λ (s : Seat). s.walker) (seat_at wait.walker key) seats w b e)

      pub new_key : key_of (with_seat (seat_at wait.walker key) seats) (row_at new key).walker ≡ Some key
      new_key = ap (λ (r : WaitRow). key_of (with_seat (seat_at wait.walker key) seats) r.walker) row_there ∙ key_put wait.walker true ((Decides-eqb wait.walker wait.walker).1 refl)

      pub kept_keys : (row : HeldToken) → HasKeys old seats row → HasKeys new (with_seat (seat_at wait.walker key) seats) row
      kept_keys row has =
          All-weaker (λ n. key_of seats (row_at old n).walker ≡ Some n) (λ n. key_of (with_seat (seat_at wait.walker key) seats) (row_at new n).walker ≡ Some n)
          (λ n e. ap (λ (r : WaitRow). key_of (with_seat (seat_at wait.walker key) seats) r.walker) (kept_row row has n e) ∙ key_put (row_at old n).walker false (apart (row_at old n).walker n (wait.walker == (row_at old n).walker) e refl) ∙ e) row.keys has

      pub joined_keys : (t : ℕ) (tokens : List HeldToken) → All (HasKeys old seats) tokens → All (HasKeys new (with_seat (seat_at wait.walker key) seats)) (with_key t key tokens)
      joined_keys t [] has = All-nil (HasKeys new (with_seat (seat_at wait.walker key) seats))
      joined_keys t (row ∷ tokens) has = by_test (row.token == t) (All-head (HasKeys old seats) row tokens has) (All-tail (HasKeys old seats) row tokens has) (joined_keys t tokens (All-tail (HasKeys old seats) row tokens has))
        where
          by_test : (b : Bool) → HasKeys old seats row → All (HasKeys old seats) tokens → All (HasKeys new (with_seat (seat_at wait.walker key) seats)) (with_key t key tokens) →
              All (HasKeys new (with_seat (seat_at wait.walker key) seats)) (cond b (joined_key row key ∷ tokens) (row ∷ with_key t key tokens))
          by_test true here others later =
              All-cons (HasKeys new (with_seat (seat_at wait.walker key) seats)) (joined_key row key) tokens
              (All-append (λ n. key_of (with_seat (seat_at wait.walker key) seats) (row_at new n).walker ≡ Some n) row.keys (key ∷ []) (kept_keys row here)
              (All-cons (λ n. key_of (with_seat (seat_at wait.walker key) seats) (row_at new n).walker ≡ Some n) key [] new_key (All-nil (λ n. key_of (with_seat (seat_at wait.walker key) seats) (row_at new n).walker ≡ Some n))))
              (All-weaker (HasKeys old seats) (HasKeys new (with_seat (seat_at wait.walker key) seats)) kept_keys tokens others)
          by_test false here others later = All-cons (HasKeys new (with_seat (seat_at wait.walker key) seats)) row (with_key t key tokens) (kept_keys row here) later
