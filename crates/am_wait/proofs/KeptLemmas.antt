-- What waits and keys keep in each call.
use Rattle.std.proofs.Common.{◌≡◌, ℕ, ◌+◌, Bool, true, false, cond, not, ◌==◌, ◌&&◌, ◌||◌, List, [], ◌∷◌, get_or, Option, Some, None, refl, sym, ap, subst, ◌∙◌, arith}
use Rattle.std.specs.Prelude.{find, filter, map, All, is_none, is_some}
use Rattle.std.specs.Option.{option_map}
use Rattle.std.proofs.lemmas.Bool.Decides.{nat_tests, Decides-eqb}
use Rattle.std.proofs.lemmas.List.Elements.{All-head, All-tail, All-nil, All-cons, All-filter, All-weaker, All-map}
use Rattle.slab.specs.Slab.{Slab, get}
use Rattle.am_names.specs.{WaitRow, OpenToken, Status, RiseBy, is_among}
use Rattle.am_names.proofs.Basics.{some_injective, none_is_not_some, or_true}
use Rattle.am_wait.specs.{Seat, HeldToken, WaitRows, token_of, wait_of, waiters_in, without_token, released_row, answered, is_waiting_on, IsSound, seat_of, key_of, with_status, among_keys, row_at, row_in, walkers_at, waits_in, IsSeat, held_of, without_held, token_in, tokens_in, HasKeys}
use Rattle.am_wait.specs.declared.waits.Waits.TheInside.{Inside}
use Rattle.am_wait.specs.View.{rows_of, IsSettled, IsKept}
use Rattle.am_wait.proofs.FindLemmas.{absent, token_taken}
use Rattle.am_wait.proofs.AgreeLemmas.{answered_sound}
use Rattle.am_wait.proofs.SeatLemmas.{SetsAll}

-- ---- lists

module _ {X Y : Type 0} (f : X → Y) (p : X → Bool) (q : Y → Bool) where
  -- what is found among rows that were made from others
  pub find_mapped : (xs : List X) → All (λ x. q (f x) ≡ p x) xs → find q (map f xs) ≡ option_map f (find p xs)
  find_mapped [] h = refl
  find_mapped (x ∷ xs) h =
      rw (All-head (λ y. q (f y) ≡ p y) x xs h, find_mapped xs (All-tail (λ y. q (f y) ≡ p y) x xs h)) (elim (p x) as (λ b. cond b (Some (f x)) (option_map f (find p xs)) ≡ option_map f (cond b (Some x) (find p xs))) [
        | true ↦ refl
        | false ↦ refl
      ])

  pub filter_mapped : (xs : List X) → All (λ x. q (f x) ≡ p x) xs → map f (filter p xs) ≡ filter q (map f xs)
  filter_mapped [] h = refl
  filter_mapped (x ∷ xs) h =
      rw (All-head (λ y. q (f y) ≡ p y) x xs h, ← filter_mapped xs (All-tail (λ y. q (f y) ≡ p y) x xs h)) (elim (p x) as (λ b. map f (cond b (x ∷ filter p xs) (filter p xs)) ≡ cond b (f x ∷ map f (filter p xs)) (map f (filter p xs))) [
        | true ↦ refl
        | false ↦ refl
      ])

pub map_same : {X Y : Type 0} (f g : X → Y) (xs : List X) → All (λ x. f x ≡ g x) xs → map f xs ≡ map g xs
map_same f g [] h = refl
map_same f g (x ∷ xs) h = rw (All-head (λ y. f y ≡ g y) x xs h, map_same f g xs (All-tail (λ y. f y ≡ g y) x xs h)) refl

pub map_twice : {X Y Z : Type 0} (f : X → Y) (g : Y → Z) (xs : List X) → map g (map f xs) ≡ map (λ x. g (f x)) xs
map_twice f g [] = refl
map_twice f g (x ∷ xs) = ap (λ others. g (f x) ∷ others) (map_twice f g xs)

-- what is found, or this where nothing is
abbrev or_this : {X : Type 0} → X → Option X → X
or_this x (Some y) = y
or_this x None = x

-- what holds of each row holds of the one that is found
pub all_find : {X : Type 0} (P : X → Type 0) (p : X → Bool) (xs : List X) (x : X) → All P xs → find p xs ≡ Some x → P x
all_find P p [] x h e = absurd cc
all_find {X = X} P p (y ∷ xs) x h e = by_test (p y) e (λ f. all_find P p xs x (All-tail P y xs h) f)
  where
    by_test : (b : Bool) → cond b (Some y) (find p xs) ≡ Some x → (find p xs ≡ Some x → P x) → P x
    by_test true f later = subst P (some_injective f) (All-head P y xs h)
    by_test false f later = later f

-- of rows that rise, each is the one that is found by its number
pub all_found : {X : Type 0} (P : X → Type 0) (key : X → ℕ) (low : ℕ) (rows : List X) → RiseBy key low rows → ((row : X) → find (λ r. key r == key row) rows ≡ Some row → P row) → All P rows
all_found P key low [] h f = All-nil P
all_found {X = X} P key low (row ∷ rows) h f =
    All-cons P row rows (f row (rw ((Decides-eqb (key row) (key row)).1 refl) refl)) (all_found P key (key row + 1) rows h.1 (λ r e. f r (in_tail r e (key row == key r) refl)))
  where
    in_tail : (r : X) → find (λ x. key x == key r) rows ≡ Some r → (b : Bool) → (key row == key r) ≡ b → cond b (Some row) (find (λ x. key x == key r) rows) ≡ Some r
    in_tail r e true t =
        let none = absent key (key r) (key row + 1) rows h.1 (grind (arith, nat_tests, t)) in
        absurd (cc (sym e ∙ none))
    in_tail r e false t = e

-- ---- keys and walkers

pub among_mapped : (f : ℕ → ℕ) (keys : List ℕ) (key : ℕ) → among_keys keys key ≡ true → is_among (map f keys) (f key) ≡ true
among_mapped f [] key h = absurd cc
among_mapped f (k ∷ keys) key h = by_test (k == key) refl h (among_mapped f keys key)
  where
    by_test : (b : Bool) → (k == key) ≡ b → (b || among_keys keys key) ≡ true → (among_keys keys key ≡ true → is_among (map f keys) (f key) ≡ true) → ((f k == f key) || is_among (map f keys) (f key)) ≡ true
    by_test true e t later = rw ((Decides-eqb (f k) (f key)).1 (ap f ((Decides-eqb k key).0 e))) refl
    by_test false e t later = rw (later t) (or_true (f k == f key))

-- a walker that is among those at these keys has one of them
pub among_from : (seats : List Seat) (f : ℕ → ℕ) (keys : List ℕ) (walker : ℕ) → All (λ key. key_of seats (f key) ≡ Some key) keys → is_among (map f keys) walker ≡ true →
    (key : ℕ) × (among_keys keys key ≡ true) × (key_of seats walker ≡ Some key)
among_from seats f [] walker h e = absurd cc
among_from seats f (k ∷ keys) walker h e = by_test (f k == walker) refl e (among_from seats f keys walker (All-tail (λ key. key_of seats (f key) ≡ Some key) k keys h))
  where
    by_test : (b : Bool) → (f k == walker) ≡ b → (b || is_among (map f keys) walker) ≡ true → (is_among (map f keys) walker ≡ true → (key : ℕ) × (among_keys keys key ≡ true) × (key_of seats walker ≡ Some key)) →
        (key : ℕ) × (among_keys (k ∷ keys) key ≡ true) × (key_of seats walker ≡ Some key)
    by_test true t g later =
        let same : f k ≡ walker = (Decides-eqb (f k) walker).0 t in
        (k, rw ((Decides-eqb k k).1 refl) refl, subst (λ (w : ℕ). key_of seats w ≡ Some k) same (All-head (λ key. key_of seats (f key) ≡ Some key) k keys h))
    by_test false t g later =
        let found = later g in
        (found.0, rw found.1 (or_true (k == found.0)), found.2)

-- ---- rows and their keys

seat_walker : (slab : Slab WaitRow) (k : ℕ) (seat : Seat) → IsSeat slab seat → ((row_at slab seat.key).walker == k) ≡ (seat.walker == k)
seat_walker slab k seat h = ap (λ (o : Option WaitRow). (row_in o).walker == k) h.1 ∙ ap (λ (n : ℕ). n == k) h.2

-- the wait of a walker is the one at its key
pub wait_found : (slab : Slab WaitRow) (seats : List Seat) (k : ℕ) → All (IsSeat slab) seats → wait_of (waits_in slab seats) k ≡ option_map (λ (s : Seat). row_at slab s.key) (seat_of seats k)
wait_found slab seats k h =
    find_mapped (λ (s : Seat). row_at slab s.key) (λ (s : Seat). s.walker == k) (λ (r : WaitRow). r.walker == k) seats
    (All-weaker (IsSeat slab) (λ (s : Seat). ((row_at slab s.key).walker == k) ≡ (s.walker == k)) (λ s e. seat_walker slab k s e) seats h)

pub token_found : (slab : Slab WaitRow) (tokens : List HeldToken) (t : ℕ) → token_of (tokens_in slab tokens) t ≡ option_map (token_in slab) (held_of tokens t)
token_found slab tokens t = find_mapped (token_in slab) (λ (r : HeldToken). r.token == t) (λ (r : OpenToken). r.token == t) tokens (λ k d less. refl)

-- the wait that a key leads to
pub wait_at : (slab : Slab WaitRow) (seats : List Seat) (k key : ℕ) → All (IsSeat slab) seats → key_of seats k ≡ Some key → get slab key ≡ wait_of (waits_in slab seats) k
wait_at slab seats k key h e = by_seat (seat_of seats k) refl e ∙ sym (wait_found slab seats k h)
  where
    by_seat : (o : Option Seat) → seat_of seats k ≡ o → option_map (λ (s : Seat). s.key) o ≡ Some key → get slab key ≡ option_map (λ (s : Seat). row_at slab s.key) o
    by_seat None f g = absurd (none_is_not_some key g)
    by_seat (Some seat) f g =
        let is = all_find (IsSeat slab) (λ (s : Seat). s.walker == k) seats seat h f in
        let same : seat.key ≡ key = ap (λ o. or_this key o) g in
        subst (λ (i : ℕ). get slab i ≡ Some (row_at slab seat.key)) same (is.1 ∙ ap (λ x. Some x) (sym (ap row_in is.1)))

-- ---- answer

module _ (i : Inside) (kept : IsKept i) (t : ℕ) (its : HeldToken) (there : held_of i.tokens.items t ≡ Some its) where
  pub its_keys : All (λ key. key_of i.seats.rows (row_at i.slab key).walker ≡ Some key) its.keys
  its_keys = all_find (HasKeys i.slab i.seats.rows) (λ (r : HeldToken). r.token == t) i.tokens.items its kept.linked.held there

  open_now : token_of (rows_of i).tokens t ≡ Some (token_in i.slab its)
  open_now = token_found i.slab i.tokens.items t ∙ ap (option_map (token_in i.slab)) there

  its_wait : (seat : Seat) → seat_of i.seats.rows seat.walker ≡ Some seat → wait_of (rows_of i).waits seat.walker ≡ Some (row_at i.slab seat.key)
  its_wait seat e = wait_found i.slab i.seats.rows seat.walker kept.linked.seated ∙ ap (option_map (λ (s : Seat). row_at i.slab s.key)) e

  its_walker : (seat : Seat) → seat_of i.seats.rows seat.walker ≡ Some seat → (row_at i.slab seat.key).walker ≡ seat.walker
  its_walker seat e =
      let is = all_find (IsSeat i.slab) (λ (s : Seat). s.walker == seat.walker) i.seats.rows seat kept.linked.seated e in
      ap (λ (o : Option WaitRow). (row_in o).walker) is.1 ∙ is.2

  pub agrees : (seat : Seat) → seat_of i.seats.rows seat.walker ≡ Some seat → is_among (walkers_at i.slab its.keys) seat.walker ≡ is_waiting_on t (Some (row_at i.slab seat.key))
  agrees seat e =
      ap (λ (o : Option OpenToken). is_among (waiters_in o) seat.walker) (sym open_now) ∙ kept.sound.agree t seat.walker ∙ ap (is_waiting_on t) (its_wait seat e)

  settled_at : (seat : Seat) → seat_of i.seats.rows seat.walker ≡ Some seat → IsSettled (rows_of i) (row_at i.slab seat.key)
  settled_at seat e = all_find (IsSettled (rows_of i)) (λ (r : WaitRow). r.walker == seat.walker) (rows_of i).waits (row_at i.slab seat.key) kept.settled (its_wait seat e)

  pub here_too : (seat : Seat) → seat_of i.seats.rows seat.walker ≡ Some seat → among_keys its.keys seat.key ≡ true → is_among (walkers_at i.slab its.keys) seat.walker ≡ true
  here_too seat e h = subst (λ (w : ℕ). is_among (walkers_at i.slab its.keys) w ≡ true) (its_walker seat e) (among_mapped (λ key. (row_at i.slab key).walker) its.keys seat.key h)

  and_here : (seat : Seat) → seat_of i.seats.rows seat.walker ≡ Some seat → is_among (walkers_at i.slab its.keys) seat.walker ≡ true → among_keys its.keys seat.key ≡ true
  and_here seat e h =
      let found = among_from i.seats.rows (λ key. (row_at i.slab key).walker) its.keys seat.walker its_keys h in
      let same : found.0 ≡ seat.key = ap (λ o. or_this found.0 o) (sym found.2 ∙ ap (option_map (λ (s : Seat). s.key)) e) in
      subst (λ (key : ℕ). among_keys its.keys key ≡ true) same found.1

  -- the token's keys are those of the waits on it
  decides : (seat : Seat) (e : seat_of i.seats.rows seat.walker ≡ Some seat) (a b : Bool) (o : Option Status) → among_keys its.keys seat.key ≡ a → ((row_at i.slab seat.key).token == t) ≡ b → (row_at i.slab seat.key).status ≡ o → a ≡ b
  decides seat e true true o f g s = refl
  decides seat e false false o f g s = refl
  decides seat e true false o f g s = absurd (cc (sym (here_too seat e f) ∙ agrees seat e ∙ ap (λ b. b && is_none (row_at i.slab seat.key).status) g))
  decides seat e false true None f g s =
      let waits : is_waiting_on t (Some (row_at i.slab seat.key)) ≡ true = ap (λ b. b && is_none (row_at i.slab seat.key).status) g ∙ ap (λ (o : Option Status). is_none o) s in
      absurd (cc (sym f ∙ and_here seat e (agrees seat e ∙ waits)))
  decides seat e false true (Some status) f g s =
      let closed = (settled_at seat e).closed (ap (λ (o : Option Status). is_some o) s) in
      let same : (row_at i.slab seat.key).token ≡ t = (Decides-eqb (row_at i.slab seat.key).token t).0 g in
      absurd (none_is_not_some (token_in i.slab its) (sym closed ∙ ap (token_of (rows_of i).tokens) same ∙ open_now))

  pub by_keys : (seat : Seat) → seat_of i.seats.rows seat.walker ≡ Some seat → among_keys its.keys seat.key ≡ ((row_at i.slab seat.key).token == t)
  by_keys seat e = decides seat e (among_keys its.keys seat.key) ((row_at i.slab seat.key).token == t) (row_at i.slab seat.key).status refl refl refl

walker_kept : (status : Status) (b : Bool) (o : Option WaitRow) → (row_in (cond b (option_map (with_status status) o) o)).walker ≡ (row_in o).walker
walker_kept status true None = refl
walker_kept status true (Some row) = refl
walker_kept status false o = refl

module _ (old new : Slab WaitRow) (status : Status) (keys : List ℕ) (sets : SetsAll old new status keys) where
  pub same_walker : (key : ℕ) → (row_at new key).walker ≡ (row_at old key).walker
  same_walker key = ap (λ (o : Option WaitRow). (row_in o).walker) (sets key) ∙ walker_kept status (among_keys keys key) (get old key)

  same_token_in : (row : HeldToken) → token_in new row ≡ token_in old row
  same_token_in row =
      ap (λ (walkers : List ℕ). record { token = row.token; trigger = row.trigger; kind = row.kind; waiters = walkers }) (map_same (λ key. (row_at new key).walker) (λ key. (row_at old key).walker) row.keys (λ k d less. same_walker (get_or row.keys k d)))

  pub same_tokens : (tokens : List HeldToken) → tokens_in new tokens ≡ tokens_in old tokens
  same_tokens tokens = map_same (token_in new) (token_in old) tokens (λ k d less. same_token_in (get_or tokens k d))

  pub same_keys : (seats : List Seat) (row : HeldToken) → HasKeys old seats row → HasKeys new seats row
  same_keys seats row h = All-weaker (λ key. key_of seats (row_at old key).walker ≡ Some key) (λ key. key_of seats (row_at new key).walker ≡ Some key) (λ key e. ap (key_of seats) (same_walker key) ∙ e) row.keys h

  seat_after_status : (seat : Seat) (row : WaitRow) (b : Bool) → get old seat.key ≡ Some row → row.walker ≡ seat.walker → among_keys keys seat.key ≡ b → IsSeat new seat
  seat_after_status seat row true e w f = (with_status status row, sets seat.key ∙ (rw (f, e) refl), w)
  seat_after_status seat row false e w f = (row, sets seat.key ∙ (rw (f, e) refl), w)

  pub same_seat : (seat : Seat) → IsSeat old seat → IsSeat new seat
  same_seat seat h = seat_after_status seat h.0 (among_keys keys seat.key) h.1 h.2 refl

  pub row_set : (t : ℕ) (seat : Seat) → IsSeat old seat → among_keys keys seat.key ≡ ((row_at old seat.key).token == t) → row_at new seat.key ≡ released_row t status (row_at old seat.key)
  row_set t seat h e =
      let was : row_at old seat.key ≡ h.0 = ap row_in h.1 in
      let decides : among_keys keys seat.key ≡ (h.0.token == t) = e ∙ ap (λ (r : WaitRow). r.token == t) was in
      ap row_in (sets seat.key) ∙ (rw (decides, h.1) (elim (h.0.token == t) as (λ b. row_in (cond b (Some (with_status status h.0)) (Some h.0)) ≡ cond b (record h.0 { status = Some status }) h.0) [ true ↦ refl | false ↦ refl ]))

-- the waits have the statuses that were set at the token's keys
pub answered_waits : (i : Inside) (kept : IsKept i) (t : ℕ) (its : HeldToken) (there : held_of i.tokens.items t ≡ Some its) (new : Slab WaitRow) (status : Status) → SetsAll i.slab new status its.keys →
    waits_in new i.seats.rows ≡ map (released_row t status) (waits_in i.slab i.seats.rows)
answered_waits i kept t its there new status sets =
    map_same (λ (s : Seat). row_at new s.key) (λ (s : Seat). released_row t status (row_at i.slab s.key)) i.seats.rows
    (all_found (λ (s : Seat). row_at new s.key ≡ released_row t status (row_at i.slab s.key)) (λ (s : Seat). s.walker) 0 i.seats.rows kept.linked.rising
    (λ seat e. row_set i.slab new status its.keys sets t seat (all_find (IsSeat i.slab) (λ (s : Seat). s.walker == seat.walker) i.seats.rows seat kept.linked.seated e) (by_keys i kept t its there seat e)))
    ∙ sym (map_twice (λ (s : Seat). row_at i.slab s.key) (released_row t status) i.seats.rows)

settled_row : (w : WaitRows) (t : ℕ) (status : Status) (row : WaitRow) (b : Bool) → (row.token == t) ≡ b → IsSettled w row → IsSettled (answered t status w) (released_row t status row)
settled_row w t status row true e h =
    let here : (t == row.token) ≡ true = grind (arith, nat_tests, e) in
    rw e (record { given = h.given; closed = λ some. token_taken t w.tokens row.token true here })
settled_row w t status row false e h =
    let apart : (t == row.token) ≡ false = grind (arith, nat_tests, e) in
    rw e (record { given = h.given; closed = λ some. token_taken t w.tokens row.token false apart ∙ h.closed some })

pub answered_settled : (w : WaitRows) (t : ℕ) (status : Status) → All (IsSettled w) w.waits → All (IsSettled (answered t status w)) (answered t status w).waits
answered_settled w t status h =
    All-map (IsSettled (answered t status w)) (released_row t status) w.waits (All-weaker (IsSettled w) (λ (r : WaitRow). IsSettled (answered t status w) (released_row t status r)) (λ r s. settled_row w t status r (r.token == t) refl s) w.waits h)

-- the same but for the tokens and the statuses
pub record Answers (i j : Inside) (t : ℕ) (status : Status) (its : HeldToken) : Type 0 where
  pub there : held_of i.tokens.items t ≡ Some its
  pub tokens : j.tokens.items ≡ without_held t i.tokens.items
  pub seats : j.seats.rows ≡ i.seats.rows
  pub slab : SetsAll i.slab j.slab status its.keys
  pub last : j.last_token ≡ i.last_token
  pub waiters : j.most_waits ≡ i.most_waits
  pub numbers : j.most_tokens ≡ i.most_tokens

pub answered_is : (i j : Inside) (t : ℕ) (status : Status) (its : HeldToken) → IsKept i → Answers i j t status its → rows_of j ≡ answered t status (rows_of i)
answered_is i j t status its kept h =
    let tokens : tokens_in j.slab j.tokens.items ≡ without_token t (tokens_in i.slab i.tokens.items) =
    ap (tokens_in j.slab) h.tokens ∙ same_tokens i.slab j.slab status its.keys h.slab (without_held t i.tokens.items)
    ∙ filter_mapped (token_in i.slab) (λ (r : HeldToken). not (r.token == t)) (λ (r : OpenToken). not (r.token == t)) i.tokens.items (λ k d less. refl) in
    let waits : waits_in j.slab j.seats.rows ≡ map (released_row t status) (waits_in i.slab i.seats.rows) =
    ap (waits_in j.slab) h.seats ∙ answered_waits i kept t its h.there j.slab status h.slab in
    rw (tokens, waits, h.last, h.waiters, h.numbers) refl

pub answered_kept : (i j : Inside) (t : ℕ) (status : Status) (its : HeldToken) → IsKept i → Answers i j t status its → IsKept j
answered_kept i j t status its kept h =
    let is : answered t status (rows_of i) ≡ rows_of j = sym (answered_is i j t status its kept h) in
    record {
      sound = subst (λ (w : WaitRows). IsSound w) is (answered_sound (rows_of i) t status kept.sound);
      settled = subst (λ (w : WaitRows). All (IsSettled w) w.waits) is (answered_settled (rows_of i) t status kept.settled);
      linked = record {
        rising = subst (λ (seats : List Seat). RiseBy (λ s. s.walker) 0 seats) (sym h.seats) kept.linked.rising;
        seated = subst (λ (seats : List Seat). All (IsSeat j.slab) seats) (sym h.seats) (All-weaker (IsSeat i.slab) (IsSeat j.slab) (same_seat i.slab j.slab status its.keys h.slab) i.seats.rows kept.linked.seated);
        held = subst (λ (seats : List Seat). All (HasKeys j.slab seats) j.tokens.items) (sym h.seats) (subst (λ (tokens : List HeldToken). All (HasKeys j.slab i.seats.rows) tokens) (sym h.tokens)
            (All-filter (λ (r : HeldToken). not (r.token == t)) (HasKeys j.slab i.seats.rows) i.tokens.items (All-weaker (HasKeys i.slab i.seats.rows) (HasKeys j.slab i.seats.rows) (same_keys i.slab j.slab status its.keys h.slab i.seats.rows) i.tokens.items kept.linked.held)));
      };
    }
