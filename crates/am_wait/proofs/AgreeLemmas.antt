-- Tokens and waits still agree after each call.
use Rattle.std.proofs.Common.{◌≡◌, ◌≤◌, ◌<◌, ◌+◌, ℕ, Bool, true, false, cond, not, ◌==◌, ◌&&◌, ◌||◌, List, [], ◌∷◌, ◌++◌, map, Option, Some, None, refl, sym, ap, subst, ◌∙◌, arith}
use Rattle.std.specs.Prelude.{filter, is_none}
use Rattle.std.specs.Option.{option_map}
use Rattle.std.proofs.lemmas.Bool.Decides.{nat_tests}
use Rattle.am_names.specs.declared.trigger.Trigger.{Trigger}
use Rattle.am_names.specs.{Status, OpenToken, WaitRow, TokenKind, RiseBy, is_among}
use Rattle.am_names.proofs.Basics.{some_injective, none_is_not_some, equal_by_test, equal_to_itself, both_of_and}
use Rattle.am_wait.specs.{WaitRows, token_of, wait_of, waiters_of, waiters_in, with_wait, without_wait, with_waiter, without_token, joined_row, waiting_on, opened, released_row, answered, failed_row, fs_released, collected, still_waits, reopened, NumbersAreAllocated, is_waiting_on, IsOnOpen, IsSound}
use Rattle.am_wait.proofs.RowLemmas.{rises_put, rises_filter, rises_map}
use Rattle.am_wait.proofs.CallLemmas.{released_walker, failed_walker, idle_collected}
use Rattle.am_wait.proofs.FindLemmas.{or_first, or_none, find_map, wait_put, wait_taken, no_wait_left, token_taken, token_last, joined_if, token_joined, unless_of, tokens_off}

-- ---- small facts

answered_none : (o : Option Status) → o ≡ None → is_none o ≡ false → ⊥
answered_none None h e = absurd cc
answered_none (Some status) h e = absurd cc

last_among : (walkers : List ℕ) (walker k : ℕ) → is_among (walkers ++ walker ∷ []) k ≡ (is_among walkers k || (walker == k))
last_among [] walker k = elim (walker == k) as (λ b. (b || false) ≡ (false || b)) [ true ↦ refl | false ↦ refl ]
last_among (w ∷ walkers) walker k =
    ap (λ (b : Bool). (w == k) || b) (last_among walkers walker k) ∙ elim (w == k) as (λ b. (b || (is_among walkers k || (walker == k))) ≡ ((b || is_among walkers k) || (walker == k))) [ true ↦ refl | false ↦ refl ]

given_filter : (last : ℕ) (test : OpenToken → Bool) (tokens : List OpenToken) → NumbersAreAllocated last tokens → NumbersAreAllocated last (filter test tokens)
given_filter last test [] h = tt
given_filter last test (row ∷ tokens) h = by_test (test row) (given_filter last test tokens h.1)
  where
    by_test : (b : Bool) → NumbersAreAllocated last (filter test tokens) → NumbersAreAllocated last (cond b (row ∷ filter test tokens) (filter test tokens))
    by_test true later = (h.0, later)
    by_test false later = later

given_last : (last : ℕ) (tokens : List OpenToken) (row : OpenToken) → NumbersAreAllocated last tokens → row.token ≡ last + 1 → NumbersAreAllocated (last + 1) (tokens ++ row ∷ [])
given_last last [] row h e = (omega (arith, e), tt)
given_last last (r ∷ tokens) row h e = (omega (arith, h.0), given_last last tokens row h.1 e)

given_joined : (t walker last : ℕ) (tokens : List OpenToken) → NumbersAreAllocated last tokens → NumbersAreAllocated last (with_waiter t walker tokens)
given_joined t walker last [] h = tt
given_joined t walker last (row ∷ tokens) h = by_test (row.token == t) (given_joined t walker last tokens h.1)
  where
    by_test : (b : Bool) → NumbersAreAllocated last (with_waiter t walker tokens) → NumbersAreAllocated last (cond b (joined_row row walker ∷ tokens) (row ∷ with_waiter t walker tokens))
    by_test true later = (h.0, h.1)
    by_test false later = (h.0, later)

rises_joined : (t walker low : ℕ) (tokens : List OpenToken) → RiseBy (λ r. r.token) low tokens → RiseBy (λ r. r.token) low (with_waiter t walker tokens)
rises_joined t walker low [] h = tt
rises_joined t walker low (row ∷ tokens) h = by_test (row.token == t) (rises_joined t walker (row.token + 1) tokens h.1)
  where
    by_test : (b : Bool) → RiseBy (λ r. r.token) (row.token + 1) (with_waiter t walker tokens) → RiseBy (λ r. r.token) low (cond b (joined_row row walker ∷ tokens) (row ∷ with_waiter t walker tokens))
    by_test true later = (h.0, h.1)
    by_test false later = (h.0, later)

rises_last : (low last : ℕ) (tokens : List OpenToken) (row : OpenToken) → RiseBy (λ r. r.token) low tokens → NumbersAreAllocated last tokens → last < row.token → low ≤ row.token → RiseBy (λ r. r.token) low (tokens ++ row ∷ [])
rises_last low last [] row h g more e = (e, tt)
rises_last low last (r ∷ tokens) row h g more e = (h.0, rises_last (r.token + 1) last tokens row h.1 g.1 more (omega (arith, g.0, more)))

-- a token that was not given yet isn't open
unopened : (last k : ℕ) (tokens : List OpenToken) → NumbersAreAllocated last tokens → last < k → token_of tokens k ≡ None
unopened last k [] h more = refl
unopened last k (row ∷ tokens) h more =
    let differs : (row.token == k) ≡ false = grind (arith, nat_tests, h.0, more) in
    rw differs (unopened last k tokens h.1 more)

-- ---- open

opened_agrees_at : (w : WaitRows) (sound : IsSound w) (trigger : Trigger) (kind : TokenKind) (walker token k : ℕ) (b c : Bool) → wait_of w.waits walker ≡ None → (w.last_token + 1 == token) ≡ b → (walker == k) ≡ c →
    is_among (waiters_of (opened trigger kind walker w).tokens token) k ≡ is_waiting_on token (wait_of (opened trigger kind walker w).waits k)
opened_agrees_at w sound trigger kind walker token k true true idle e f =
    let free : token_of w.tokens token ≡ None = unopened w.last_token token w.tokens sound.given (grind (arith, nat_tests, e)) in
    rw (token_last w.tokens (record { token = w.last_token + 1; trigger = trigger; kind = kind; waiters = walker ∷ [] }) token, wait_put (waiting_on (w.last_token + 1) trigger kind walker) w.waits k true f, free, e, f) refl
opened_agrees_at w sound trigger kind walker token k true false idle e f =
    let free : token_of w.tokens token ≡ None = unopened w.last_token token w.tokens sound.given (grind (arith, nat_tests, e)) in
    rw (token_last w.tokens (record { token = w.last_token + 1; trigger = trigger; kind = kind; waiters = walker ∷ [] }) token, wait_put (waiting_on (w.last_token + 1) trigger kind walker) w.waits k false f, free, e, f) (rw free at (sound.agree token k))
opened_agrees_at w sound trigger kind walker token k false true idle e f =
    let none : wait_of w.waits k ≡ None = ap (wait_of w.waits) (sym (equal_by_test walker k f)) ∙ idle in
    rw (token_last w.tokens (record { token = w.last_token + 1; trigger = trigger; kind = kind; waiters = walker ∷ [] }) token, wait_put (waiting_on (w.last_token + 1) trigger kind walker) w.waits k true f, e, or_none (token_of w.tokens token)) (rw none at (sound.agree token k))
opened_agrees_at w sound trigger kind walker token k false false idle e f =
    rw (token_last w.tokens (record { token = w.last_token + 1; trigger = trigger; kind = kind; waiters = walker ∷ [] }) token, wait_put (waiting_on (w.last_token + 1) trigger kind walker) w.waits k false f, e, or_none (token_of w.tokens token)) (sound.agree token k)

still_open : (tokens : List OpenToken) (more : OpenToken) (row : WaitRow) → IsOnOpen tokens row → IsOnOpen (tokens ++ more ∷ []) row
still_open tokens more row h status =
    let its = h status in
    (its.0, token_last tokens more row.token ∙ ap (λ o. or_first o (cond (more.token == row.token) (Some more) None)) its.1, its.2, its.3)

opened_same : (w : WaitRows) (sound : IsSound w) (trigger : Trigger) (kind : TokenKind) (walker k : ℕ) (row : WaitRow) (c : Bool) → (walker == k) ≡ c → wait_of (opened trigger kind walker w).waits k ≡ Some row → IsOnOpen (opened trigger kind walker w).tokens row
opened_same w sound trigger kind walker k row true f h =
    let new : OpenToken = record { token = w.last_token + 1; trigger = trigger; kind = kind; waiters = walker ∷ [] } in
    let is : waiting_on (w.last_token + 1) trigger kind walker ≡ row = some_injective (sym (wait_put (waiting_on (w.last_token + 1) trigger kind walker) w.waits k true f) ∙ h) in
    let free : token_of w.tokens (w.last_token + 1) ≡ None = unopened w.last_token (w.last_token + 1) w.tokens sound.given (omega arith) in
    subst (λ (r : WaitRow). IsOnOpen (w.tokens ++ new ∷ []) r) is (λ status. (new, token_last w.tokens new (w.last_token + 1) ∙ (rw (free, equal_to_itself (w.last_token + 1)) refl), refl, refl))
opened_same w sound trigger kind walker k row false f h =
    still_open w.tokens _ row (sound.same k row (sym (wait_put (waiting_on (w.last_token + 1) trigger kind walker) w.waits k false f) ∙ h))

pub opened_sound : (w : WaitRows) (trigger : Trigger) (kind : TokenKind) (walker : ℕ) → IsSound w → wait_of w.waits walker ≡ None → IsSound (opened trigger kind walker w)
opened_sound w trigger kind walker sound idle =
    let new : OpenToken = record { token = w.last_token + 1; trigger = trigger; kind = kind; waiters = walker ∷ [] } in
    record {
      waits = rises_put (λ (r : WaitRow). r.walker) 0 (waiting_on (w.last_token + 1) trigger kind walker) w.waits sound.waits (omega arith);
      tokens = rises_last 0 w.last_token w.tokens new sound.tokens sound.given (omega arith) (omega arith);
      given = given_last w.last_token w.tokens new sound.given refl;
      agree = λ token k. opened_agrees_at w sound trigger kind walker token k (w.last_token + 1 == token) (walker == k) idle refl refl;
      same = λ k row h. opened_same w sound trigger kind walker k row (walker == k) refl h;
    }

-- ---- join

joined_agree : (w : WaitRows) (sound : IsSound w) (t walker token k : ℕ) (its : OpenToken) (b c : Bool) → wait_of w.waits walker ≡ None → token_of w.tokens t ≡ Some its → (t == token) ≡ b → (walker == k) ≡ c →
    is_among (waiters_of (with_waiter t walker w.tokens) token) k ≡ is_waiting_on token (wait_of (with_wait (waiting_on t its.trigger its.kind walker) w.waits) k)
joined_agree w sound t walker token k its true true idle there e f =
    let found : token_of w.tokens token ≡ Some its = ap (token_of w.tokens) (sym (equal_by_test t token e)) ∙ there in
    rw (token_joined t walker token w.tokens true e, wait_put (waiting_on t its.trigger its.kind walker) w.waits k true f, found, e, last_among its.waiters walker k, f) (elim (is_among its.waiters k) as (λ b. (b || true) ≡ true) [ true ↦ refl | false ↦ refl ])
joined_agree w sound t walker token k its true false idle there e f =
    let found : token_of w.tokens token ≡ Some its = ap (token_of w.tokens) (sym (equal_by_test t token e)) ∙ there in
    rw (token_joined t walker token w.tokens true e, wait_put (waiting_on t its.trigger its.kind walker) w.waits k false f, found, last_among its.waiters walker k, f) ((elim (is_among its.waiters k) as (λ b. (b || false) ≡ b) [ true ↦ refl | false ↦ refl ]) ∙ (rw found at (sound.agree token k)))
joined_agree w sound t walker token k its false true idle there e f =
    let none : wait_of w.waits k ≡ None = ap (wait_of w.waits) (sym (equal_by_test walker k f)) ∙ idle in
    rw (token_joined t walker token w.tokens false e, wait_put (waiting_on t its.trigger its.kind walker) w.waits k true f, e) (rw none at (sound.agree token k))
joined_agree w sound t walker token k its false false idle there e f =
    rw (token_joined t walker token w.tokens false e, wait_put (waiting_on t its.trigger its.kind walker) w.waits k false f) (sound.agree token k)

joined_open : (t walker : ℕ) (tokens : List OpenToken) (row : WaitRow) (b : Bool) → (t == row.token) ≡ b → IsOnOpen tokens row → IsOnOpen (with_waiter t walker tokens) row
joined_open t walker tokens row true e h status =
    let its = h status in
    (joined_row its.0 walker, token_joined t walker row.token tokens true e ∙ ap (λ o. joined_if true walker o) its.1, its.2, its.3)
joined_open t walker tokens row false e h status =
    let its = h status in
    (its.0, token_joined t walker row.token tokens false e ∙ its.1, its.2, its.3)

joined_same : (w : WaitRows) (sound : IsSound w) (t walker k : ℕ) (its : OpenToken) (row : WaitRow) (c : Bool) → token_of w.tokens t ≡ Some its → (walker == k) ≡ c → wait_of (with_wait (waiting_on t its.trigger its.kind walker) w.waits) k ≡ Some row → IsOnOpen (with_waiter t walker w.tokens) row
joined_same w sound t walker k its row true there f h =
    let is : waiting_on t its.trigger its.kind walker ≡ row = some_injective (sym (wait_put (waiting_on t its.trigger its.kind walker) w.waits k true f) ∙ h) in
    subst (λ (r : WaitRow). IsOnOpen (with_waiter t walker w.tokens) r) is (λ status. (joined_row its walker, token_joined t walker t w.tokens true (equal_to_itself t) ∙ ap (λ o. joined_if true walker o) there, refl, refl))
joined_same w sound t walker k its row false there f h =
    joined_open t walker w.tokens row (t == row.token) refl (sound.same k row (sym (wait_put (waiting_on t its.trigger its.kind walker) w.waits k false f) ∙ h))

pub joined_sound : (w : WaitRows) (t walker : ℕ) (its : OpenToken) → IsSound w → wait_of w.waits walker ≡ None → token_of w.tokens t ≡ Some its →
    IsSound (record w { tokens = with_waiter t walker w.tokens; waits = with_wait (waiting_on t its.trigger its.kind walker) w.waits })
joined_sound w t walker its sound idle there = record {
  waits = rises_put (λ (r : WaitRow). r.walker) 0 (waiting_on t its.trigger its.kind walker) w.waits sound.waits (omega arith);
  tokens = rises_joined t walker 0 w.tokens sound.tokens;
  given = given_joined t walker w.last_token w.tokens sound.given;
  agree = λ token k. joined_agree w sound t walker token k its (t == token) (walker == k) idle there refl refl;
  same = λ k row h. joined_same w sound t walker k its row (walker == k) there refl h;
}

-- ---- answer

released_test : (token t : ℕ) (status : Status) (row : WaitRow) (b c : Bool) → (t == token) ≡ b → (row.token == t) ≡ c → is_waiting_on token (Some (released_row t status row)) ≡ cond b false (is_waiting_on token (Some row))
released_test token t status row true true e f = rw f (elim (row.token == token) as (λ b. (b && false) ≡ false) [ true ↦ refl | false ↦ refl ])
released_test token t status row true false e f =
    let other : (row.token == token) ≡ false = grind (arith, nat_tests, e, f) in
    rw (f, other) refl
released_test token t status row false true e f =
    let other : (row.token == token) ≡ false = grind (arith, nat_tests, e, f) in
    rw (f, other) refl
released_test token t status row false false e f = rw f refl

answered_wait : (token t : ℕ) (status : Status) (b : Bool) (o : Option WaitRow) → (t == token) ≡ b → is_waiting_on token (option_map (released_row t status) o) ≡ cond b false (is_waiting_on token o)
answered_wait token t status true None e = refl
answered_wait token t status false None e = refl
answered_wait token t status b (Some row) e = released_test token t status row b (row.token == t) e refl

released_found : (t k : ℕ) (status : Status) (waits : List WaitRow) → wait_of (map (released_row t status) waits) k ≡ option_map (released_row t status) (wait_of waits k)
released_found t k status waits = find_map (λ (r : WaitRow). r.walker == k) (released_row t status) (λ r. ap (λ (n : ℕ). n == k) (released_walker t status r)) waits

answered_agree : (w : WaitRows) (sound : IsSound w) (t token k : ℕ) (status : Status) (b : Bool) → (t == token) ≡ b → is_among (waiters_of (without_token t w.tokens) token) k ≡ is_waiting_on token (wait_of (map (released_row t status) w.waits) k)
answered_agree w sound t token k status true e = rw (token_taken t w.tokens token true e, released_found t k status w.waits, answered_wait token t status true (wait_of w.waits k) e) refl
answered_agree w sound t token k status false e = rw (token_taken t w.tokens token false e, released_found t k status w.waits, answered_wait token t status false (wait_of w.waits k) e) (sound.agree token k)

answered_row : (w : WaitRows) (t : ℕ) (status : Status) (old : WaitRow) (b : Bool) → (old.token == t) ≡ b → IsOnOpen w.tokens old → IsOnOpen (without_token t w.tokens) (released_row t status old)
answered_row w t status old true e h = rw e (λ none. absurd cc)
answered_row w t status old false e h =
    let other : (t == old.token) ≡ false = grind (arith, nat_tests, e) in
    rw e (λ none. let its = h none in (its.0, token_taken t w.tokens old.token false other ∙ its.1, its.2, its.3))

answered_from : (w : WaitRows) (t : ℕ) (status : Status) (o : Option WaitRow) (row : WaitRow) → ((old : WaitRow) → o ≡ Some old → IsOnOpen w.tokens old) → option_map (released_row t status) o ≡ Some row → IsOnOpen (without_token t w.tokens) row
answered_from w t status None row same h = absurd cc
answered_from w t status (Some old) row same h = subst (λ (r : WaitRow). IsOnOpen (without_token t w.tokens) r) (some_injective h) (answered_row w t status old (old.token == t) refl (same old refl))

pub answered_sound : (w : WaitRows) (t : ℕ) (status : Status) → IsSound w → IsSound (answered t status w)
answered_sound w t status sound = record {
  waits = rises_map (λ (r : WaitRow). r.walker) (released_row t status) 0 w.waits (released_walker t status) sound.waits;
  tokens = rises_filter (λ (r : OpenToken). r.token) (λ r. not (r.token == t)) 0 w.tokens sound.tokens;
  given = given_filter w.last_token (λ r. not (r.token == t)) w.tokens sound.given;
  agree = λ token k. answered_agree w sound t token k status (t == token) refl;
  same = λ k row h. answered_from w t status (wait_of w.waits k) row (λ old e. sound.same k old e) (sym (released_found t k status w.waits) ∙ h);
}

-- ---- collect

collected_agree : (w : WaitRows) (sound : IsSound w) (walker token k : ℕ) (row : WaitRow) (status : Status) (b : Bool) → wait_of w.waits walker ≡ Some row → row.status ≡ Some status → (walker == k) ≡ b →
    is_among (waiters_of w.tokens token) k ≡ is_waiting_on token (wait_of (without_wait walker w.waits) k)
collected_agree w sound walker token k row status true there s e =
    let found : wait_of w.waits k ≡ Some row = ap (wait_of w.waits) (sym (equal_by_test walker k e)) ∙ there in
    let done : is_waiting_on token (Some row) ≡ false = ap (λ (o : Option Status). (row.token == token) && is_none o) s ∙ (elim (row.token == token) as (λ b. (b && false) ≡ false) [ true ↦ refl | false ↦ refl ]) in
    rw (wait_taken walker w.waits k true e) ((rw found at (sound.agree token k)) ∙ done)
collected_agree w sound walker token k row status false there s e = rw (wait_taken walker w.waits k false e) (sound.agree token k)

collected_same : (w : WaitRows) (sound : IsSound w) (walker k : ℕ) (row : WaitRow) (b : Bool) → (walker == k) ≡ b → wait_of (without_wait walker w.waits) k ≡ Some row → IsOnOpen w.tokens row
collected_same w sound walker k row true e h = absurd (none_is_not_some row (sym (wait_taken walker w.waits k true e) ∙ h))
collected_same w sound walker k row false e h = sound.same k row (sym (wait_taken walker w.waits k false e) ∙ h)

pub collected_sound : (w : WaitRows) (walker : ℕ) (row : WaitRow) (status : Status) → IsSound w → wait_of w.waits walker ≡ Some row → row.status ≡ Some status → IsSound (collected walker w)
collected_sound w walker row status sound there s = record {
  waits = rises_filter (λ (r : WaitRow). r.walker) (λ r. not (r.walker == walker)) 0 w.waits sound.waits;
  tokens = sound.tokens;
  given = sound.given;
  agree = λ token k. collected_agree w sound walker token k row status (walker == k) there s refl;
  same = λ k r h. collected_same w sound walker k r (walker == k) refl h;
}

-- ---- reopen and rejoin

freed_row : (w : WaitRows) (walker : ℕ) (row : WaitRow) (o : Option Status) → IsSound w → wait_of w.waits walker ≡ Some row → row.status ≡ o → is_none o ≡ false → IsSound (collected walker w)
freed_row w walker row None sound there e h = absurd cc
freed_row w walker row (Some status) sound there e h = collected_sound w walker row status sound there e

collected_sound_once_released : (w : WaitRows) (walker : ℕ) (o : Option WaitRow) → IsSound w → wait_of w.waits walker ≡ o → still_waits o ≡ false → IsSound (collected walker w)
collected_sound_once_released w walker None sound there h = subst (λ (x : WaitRows). IsSound x) (sym (idle_collected walker w there)) sound
collected_sound_once_released w walker (Some row) sound there h = freed_row w walker row row.status sound there refl h

freed_sound : (w : WaitRows) (walker : ℕ) → IsSound w → still_waits (wait_of w.waits walker) ≡ false → IsSound (collected walker w)
freed_sound w walker sound h = collected_sound_once_released w walker (wait_of w.waits walker) sound refl h

pub reopened_sound : (w : WaitRows) (trigger : Trigger) (kind : TokenKind) (walker : ℕ) → IsSound w → still_waits (wait_of w.waits walker) ≡ false → IsSound (reopened trigger kind walker w)
reopened_sound w trigger kind walker sound free = opened_sound (collected walker w) trigger kind walker (freed_sound w walker sound free) (no_wait_left walker w.waits)

pub rejoined_sound : (w : WaitRows) (t walker : ℕ) (its : OpenToken) → IsSound w → still_waits (wait_of w.waits walker) ≡ false → token_of w.tokens t ≡ Some its →
    IsSound (record w { tokens = with_waiter t walker w.tokens; waits = with_wait (waiting_on t its.trigger its.kind walker) (without_wait walker w.waits) })
rejoined_sound w t walker its sound free there = joined_sound (collected walker w) t walker its (freed_sound w walker sound free) (no_wait_left walker w.waits) there

-- ---- release_fs

failed_found : (fs k : ℕ) (waits : List WaitRow) → wait_of (map (failed_row fs) waits) k ≡ option_map (failed_row fs) (wait_of waits k)
failed_found fs k waits = find_map (λ (r : WaitRow). r.walker == k) (failed_row fs) (λ r. ap (λ (n : ℕ). n == k) (failed_walker fs r)) waits

less_among : (fs k : ℕ) (o : Option OpenToken) → is_among (waiters_in o) k ≡ false → is_among (waiters_in (unless_of fs o)) k ≡ false
less_among fs k None h = h
less_among fs k (Some its) h = elim (its.trigger.fs == fs) as (λ b. is_among (waiters_in (cond b None (Some its))) k ≡ false) [ true ↦ refl | false ↦ h ]

-- a wait that is on another token, or was released, is so afterwards
failed_elsewhere : (fs token : ℕ) (row : WaitRow) (b : Bool) → ((row.trigger.fs == fs) && is_none row.status) ≡ b → is_waiting_on token (Some row) ≡ false → is_waiting_on token (Some (failed_row fs row)) ≡ false
failed_elsewhere fs token row true e h = rw e (elim (row.token == token) as (λ b. (b && false) ≡ false) [ true ↦ refl | false ↦ refl ])
failed_elsewhere fs token row false e h = rw e h

-- a wait that is on the token: whether the file system is the token's decides
failed_here : (fs token k : ℕ) (row : WaitRow) (its : OpenToken) (b : Bool) → its.trigger ≡ row.trigger → (row.trigger.fs == fs) ≡ b → (row.token == token) ≡ true → is_none row.status ≡ true → is_among its.waiters k ≡ true →
    is_among (waiters_in (unless_of fs (Some its))) k ≡ is_waiting_on token (Some (failed_row fs row))
failed_here fs token k row its true t e f s among =
    let its_fs : (its.trigger.fs == fs) ≡ true = ap (λ (g : Trigger). g.fs == fs) t ∙ e in
    rw (its_fs, e, s, f) refl
failed_here fs token k row its false t e f s among =
    let its_fs : (its.trigger.fs == fs) ≡ false = ap (λ (g : Trigger). g.fs == fs) t ∙ e in
    rw (its_fs, e, s, f) among

is_unanswered : (o : Option Status) → is_none o ≡ true → o ≡ None
is_unanswered None h = refl
is_unanswered (Some status) h = absurd cc

failed_agrees_at : (w : WaitRows) (fs token k : ℕ) (row : WaitRow) (b : Bool) → is_waiting_on token (Some row) ≡ b → is_among (waiters_of w.tokens token) k ≡ is_waiting_on token (Some row) → IsOnOpen w.tokens row →
    is_among (waiters_in (unless_of fs (token_of w.tokens token))) k ≡ is_waiting_on token (Some (failed_row fs row))
failed_agrees_at w fs token k row true e agree same =
    let two = both_of_and (row.token == token) (is_none row.status) e in
    let its = same (is_unanswered row.status two.1) in
    let found : token_of w.tokens token ≡ Some its.0 = ap (token_of w.tokens) (sym (equal_by_test row.token token two.0)) ∙ its.1 in
    rw found (failed_here fs token k row its.0 (row.trigger.fs == fs) its.2 refl two.0 two.1 (rw found at (agree ∙ e)))
failed_agrees_at w fs token k row false e agree same =
    less_among fs k (token_of w.tokens token) (agree ∙ e) ∙ sym (failed_elsewhere fs token row ((row.trigger.fs == fs) && is_none row.status) refl e)

off_agree : (w : WaitRows) (fs token k : ℕ) (o : Option WaitRow) → is_among (waiters_of w.tokens token) k ≡ is_waiting_on token o → ((row : WaitRow) → o ≡ Some row → IsOnOpen w.tokens row) →
    is_among (waiters_in (unless_of fs (token_of w.tokens token))) k ≡ is_waiting_on token (option_map (failed_row fs) o)
off_agree w fs token k None agree same = less_among fs k (token_of w.tokens token) agree
off_agree w fs token k (Some row) agree same = failed_agrees_at w fs token k row (is_waiting_on token (Some row)) refl agree (same row refl)

kept_open : (tokens : List OpenToken) (fs : ℕ) (row : WaitRow) → RiseBy (λ r. r.token) 0 tokens → (row.trigger.fs == fs) ≡ false → IsOnOpen tokens row → IsOnOpen (filter (λ r. not (r.trigger.fs == fs)) tokens) row
kept_open tokens fs row rises e h none =
    let its = h none in
    let its_fs : (its.0.trigger.fs == fs) ≡ false = ap (λ (g : Trigger). g.fs == fs) its.2 ∙ e in
    (its.0, tokens_off fs row.token 0 tokens rises ∙ ap (unless_of fs) its.1 ∙ (rw its_fs refl), its.2, its.3)

failed_on : (tokens : List OpenToken) (fs : ℕ) (old : WaitRow) (b c : Bool) → RiseBy (λ r. r.token) 0 tokens → (old.trigger.fs == fs) ≡ b → is_none old.status ≡ c → IsOnOpen tokens old → IsOnOpen (filter (λ r. not (r.trigger.fs == fs)) tokens) (failed_row fs old)
failed_on tokens fs old true true rises e s h = rw (e, s) (λ none. absurd cc)
failed_on tokens fs old true false rises e s h = rw (e, s) (λ none. absurd (answered_none old.status none s))
failed_on tokens fs old false c rises e s h = rw e (kept_open tokens fs old rises e h)

failed_from : (w : WaitRows) (fs : ℕ) (o : Option WaitRow) (row : WaitRow) → RiseBy (λ r. r.token) 0 w.tokens → ((old : WaitRow) → o ≡ Some old → IsOnOpen w.tokens old) → option_map (failed_row fs) o ≡ Some row → IsOnOpen (filter (λ r. not (r.trigger.fs == fs)) w.tokens) row
failed_from w fs None row rises same h = absurd cc
failed_from w fs (Some old) row rises same h = subst (λ (r : WaitRow). IsOnOpen (filter (λ r. not (r.trigger.fs == fs)) w.tokens) r) (some_injective h) (failed_on w.tokens fs old (old.trigger.fs == fs) (is_none old.status) rises refl refl (same old refl))

pub released_sound : (w : WaitRows) (fs : ℕ) → IsSound w → IsSound (fs_released fs w)
released_sound w fs sound = record {
  waits = rises_map (λ (r : WaitRow). r.walker) (failed_row fs) 0 w.waits (failed_walker fs) sound.waits;
  tokens = rises_filter (λ (r : OpenToken). r.token) (λ r. not (r.trigger.fs == fs)) 0 w.tokens sound.tokens;
  given = given_filter w.last_token (λ r. not (r.trigger.fs == fs)) w.tokens sound.given;
  agree = λ token k.
      ap (λ (o : Option OpenToken). is_among (waiters_in o) k) (tokens_off fs token 0 w.tokens sound.tokens)
      ∙ off_agree w fs token k (wait_of w.waits k) (sound.agree token k) (λ row e. sound.same k row e)
      ∙ ap (is_waiting_on token) (sym (failed_found fs k w.waits));
  same = λ k row h. failed_from w fs (wait_of w.waits k) row sound.tokens (λ old e. sound.same k old e) (sym (failed_found fs k w.waits) ∙ h);
}

-- ---- the beginning

pub new_sound : (waiters tokens : ℕ) → IsSound (record { tokens = []; waits = []; last_token = 0; most_waits = waiters; most_tokens = tokens })
new_sound waiters tokens = record { waits = tt; tokens = tt; given = tt; agree = λ token walker. refl; same = λ walker row h. absurd (none_is_not_some row h) }

-- ---- rows that are the same

pub with_rows : (w : WaitRows) (tokens tokens' : List OpenToken) (waits waits' : List WaitRow) (last : ℕ) → tokens ≡ tokens' → waits ≡ waits' → IsSound (record w { tokens = tokens'; waits = waits'; last_token = last }) → IsSound (record w { tokens = tokens; waits = waits; last_token = last })
with_rows w tokens tokens' waits waits' last e f h =
    subst (λ (ts : List OpenToken). IsSound (record w { tokens = ts; waits = waits; last_token = last })) (sym e) (subst (λ (vs : List WaitRow). IsSound (record w { tokens = tokens'; waits = vs; last_token = last })) (sym f) h)
