-- Each wait's token was given, and is closed once the wait was released: so it stays in each call.
use Rattle.std.proofs.Common.{◌≡◌, ℕ, ◌+◌, ◌≤◌, Bool, true, false, cond, ◌==◌, List, [], ◌∷◌, get_or, Option, Some, None, refl, ap, subst, ◌∙◌, arith}
use Rattle.std.specs.Prelude.{filter, All, nat_lt, is_none, is_some}
use Rattle.std.proofs.lemmas.Bool.Decides.{nat_tests, Decides-eqb}
use Rattle.std.proofs.lemmas.List.Elements.{All-cons, All-append, All-filter, All-map, All-weaker}
use Rattle.am_names.specs.declared.trigger.Trigger.{Trigger}
use Rattle.am_names.specs.{Status, OpenToken, WaitRow, TokenKind}
use Rattle.am_names.proofs.Basics.{none_is_not_some}
use Rattle.am_wait.specs.{WaitRows, token_of, with_wait, with_waiter, waiting_on, opened, failed_row, fs_released, NumbersAreAllocated, IsOnOpen, IsSound}
use Rattle.am_wait.specs.View.{IsSettled}
use Rattle.am_wait.proofs.FindLemmas.{or_first, or_none, token_last, joined_if, token_joined, unless_of, tokens_off}
use Rattle.am_wait.proofs.KeptLemmas.{all_found}

-- all of the old ones, and the new one at its place
all_put : (P : WaitRow → Type 0) (row : WaitRow) (waits : List WaitRow) → P row → All P waits → All P (with_wait row waits)
all_put P row waits p h =
    All-append P (filter (λ (r : WaitRow). nat_lt r.walker row.walker) waits) (row ∷ filter (λ (r : WaitRow). nat_lt row.walker r.walker) waits)
    (All-filter (λ (r : WaitRow). nat_lt r.walker row.walker) P waits h)
    (All-cons P row (filter (λ (r : WaitRow). nat_lt row.walker r.walker) waits) p (All-filter (λ (r : WaitRow). nat_lt row.walker r.walker) P waits h))

opened_old : (w : WaitRows) (trigger : Trigger) (kind : TokenKind) (walker : ℕ) (row : WaitRow) → IsSettled w row → IsSettled (opened trigger kind walker w) row
opened_old w trigger kind walker row h =
    let new : OpenToken = record { token = w.last_token + 1; trigger = trigger; kind = kind; waiters = walker ∷ [] } in
    let given : row.token ≤ w.last_token = h.given in
    let apart : (w.last_token + 1 == row.token) ≡ false = grind (arith, nat_tests, given) in
    record {
      given = omega (arith, given);
      closed = λ some. token_last w.tokens new row.token ∙ ap (λ b. or_first (token_of w.tokens row.token) (cond b (Some new) None)) apart ∙ or_none (token_of w.tokens row.token) ∙ h.closed some;
    }

pub opened_settled : (w : WaitRows) (trigger : Trigger) (kind : TokenKind) (walker : ℕ) → All (IsSettled w) w.waits → All (IsSettled (opened trigger kind walker w)) (opened trigger kind walker w).waits
opened_settled w trigger kind walker h =
    all_put (IsSettled (opened trigger kind walker w)) (waiting_on (w.last_token + 1) trigger kind walker) w.waits
    (record { given = omega arith; closed = λ some. absurd cc })
    (All-weaker (IsSettled w) (IsSettled (opened trigger kind walker w)) (opened_old w trigger kind walker) w.waits h)

-- an open token was given
given_open : (last t : ℕ) (tokens : List OpenToken) (its : OpenToken) → NumbersAreAllocated last tokens → token_of tokens t ≡ Some its → t ≤ last
given_open last t [] its h e = absurd (none_is_not_some its e)
given_open last t (row ∷ tokens) its h e = by_test (row.token == t) refl e (given_open last t tokens its h.1)
  where
    by_test : (b : Bool) → (row.token == t) ≡ b → cond b (Some row) (token_of tokens t) ≡ Some its → (token_of tokens t ≡ Some its → t ≤ last) → t ≤ last
    by_test true e f later = subst (λ (n : ℕ). n ≤ last) ((Decides-eqb row.token t).0 e) h.0
    by_test false e f later = later f

abbrev pub joined_rows : WaitRows → ℕ → ℕ → OpenToken → WaitRows
joined_rows w t walker its = record w { tokens = with_waiter t walker w.tokens; waits = with_wait (waiting_on t its.trigger its.kind walker) w.waits }

joined_none : (b : Bool) (walker : ℕ) → joined_if b walker None ≡ None
joined_none true walker = refl
joined_none false walker = refl

joined_old : (w : WaitRows) (t walker : ℕ) (its : OpenToken) (row : WaitRow) → IsSettled w row → IsSettled (joined_rows w t walker its) row
joined_old w t walker its row h =
    record {
      given = h.given;
      closed = λ some. token_joined t walker row.token w.tokens (t == row.token) refl ∙ ap (λ o. joined_if (t == row.token) walker o) (h.closed some) ∙ joined_none (t == row.token) walker;
    }

pub joined_settled : (w : WaitRows) (t walker : ℕ) (its : OpenToken) → IsSound w → token_of w.tokens t ≡ Some its → All (IsSettled w) w.waits → All (IsSettled (joined_rows w t walker its)) (joined_rows w t walker its).waits
joined_settled w t walker its sound there h =
    all_put (IsSettled (joined_rows w t walker its)) (waiting_on t its.trigger its.kind walker) w.waits
    (record { given = given_open w.last_token t w.tokens its sound.given there; closed = λ some. absurd cc })
    (All-weaker (IsSettled w) (IsSettled (joined_rows w t walker its)) (joined_old w t walker its) w.waits h)

-- ---- release_fs

failed_is_closed : (w : WaitRows) (fs : ℕ) (row : WaitRow) (o : Option Status) → row.status ≡ o → IsSettled w row → IsOnOpen w.tokens row → (row.trigger.fs == fs) ≡ true → unless_of fs (token_of w.tokens row.token) ≡ None
failed_is_closed w fs row (Some status) e h on f = ap (unless_of fs) (h.closed (ap (λ o. is_some o) e))
failed_is_closed w fs row None e h on f =
    let its = on e in
    let its_fs : (its.0.trigger.fs == fs) ≡ true = ap (λ (g : Trigger). g.fs == fs) its.2 ∙ f in
    ap (unless_of fs) its.1 ∙ ap (λ b. cond b None (Some its.0)) its_fs

failed_settled_at : (w : WaitRows) (fs : ℕ) (row : WaitRow) (a b : Bool) → (row.trigger.fs == fs) ≡ a → is_none row.status ≡ b → IsSound w → IsSettled w row → IsOnOpen w.tokens row → IsSettled (fs_released fs w) (failed_row fs row)
failed_settled_at w fs row true true e f sound h on =
    rw (e, f) (record { given = h.given; closed = λ some. tokens_off fs row.token 0 w.tokens sound.tokens ∙ failed_is_closed w fs row row.status refl h on e })
failed_settled_at w fs row false b e f sound h on =
    rw e (record { given = h.given; closed = λ some. tokens_off fs row.token 0 w.tokens sound.tokens ∙ ap (unless_of fs) (h.closed some) })
failed_settled_at w fs row true false e f sound h on =
    rw (e, f) (record { given = h.given; closed = λ some. tokens_off fs row.token 0 w.tokens sound.tokens ∙ ap (unless_of fs) (h.closed some) })

pub failed_settled : (w : WaitRows) (fs : ℕ) → IsSound w → All (IsSettled w) w.waits → All (IsSettled (fs_released fs w)) (fs_released fs w).waits
failed_settled w fs sound h =
    let on : All (IsOnOpen w.tokens) w.waits = all_found (IsOnOpen w.tokens) (λ (r : WaitRow). r.walker) 0 w.waits sound.waits (λ row e. sound.same row.walker row e) in
    All-map (IsSettled (fs_released fs w)) (failed_row fs) w.waits
    (λ n d less. failed_settled_at w fs (get_or w.waits n d) ((get_or w.waits n d).trigger.fs == fs) (is_none (get_or w.waits n d).status) refl refl sound (h n d less) (on n d less))
