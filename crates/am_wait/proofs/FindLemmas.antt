-- What is found in rows that were put, changed and taken away.
use Rattle.std.proofs.Common.{◌≡◌, ◌≢◌, ◌≤◌, ◌<◌, ◌+◌, ℕ, Bool, true, false, cond, not, ◌==◌, List, [], ◌∷◌, ◌++◌, map, Option, Some, None, refl, sym, ap, ◌∙◌, inl, inr, arith}
use Rattle.std.specs.Prelude.{filter, find, nat_lt}
use Rattle.std.specs.Option.{option_map}
use Rattle.std.proofs.lemmas.Bool.{cases_lt}
use Rattle.std.proofs.lemmas.Bool.Decides.{nat_tests, Decides-eqb}
use Rattle.am_names.specs.{OpenToken, WaitRow, RiseBy}
use Rattle.am_wait.specs.{token_of, wait_of, with_wait, without_wait, with_waiter, without_token, joined_row}
use Rattle.am_wait.proofs.RowLemmas.{rises_filter}

-- the first, if there is one, else the other
abbrev pub or_first : {X : Type 0} → Option X → Option X → Option X
or_first (Some x) other = Some x
or_first None other = other

pub or_none : {X : Type 0} (o : Option X) → or_first o None ≡ o
or_none (Some x) = refl
or_none None = refl

module _ {X : Type 0} (test : X → Bool) where
  pub find_append : (xs ys : List X) → find test (xs ++ ys) ≡ or_first (find test xs) (find test ys)
  find_append [] ys = refl
  find_append (x ∷ xs) ys =
      rw (find_append xs ys) (elim (test x) as (λ b. cond b (Some x) (or_first (find test xs) (find test ys)) ≡ or_first (cond b (Some x) (find test xs)) (find test ys)) [
        | true ↦ refl
        | false ↦ refl
      ])

  module _ (keep : X → Bool) where
    kept_by : (kept : (x : X) → test x ≡ true → keep x ≡ true) (x : X) (xs : List X) (b d : Bool) → keep x ≡ b → test x ≡ d → find test (filter keep xs) ≡ find test xs → find test (filter keep (x ∷ xs)) ≡ find test (x ∷ xs)
    kept_by kept x xs true d k t later = rw (k, later) refl
    kept_by kept x xs false true k t later = absurd (cc (sym k ∙ kept x t))
    kept_by kept x xs false false k t later = rw (k, t) later

    -- what is looked for is kept
    pub find_kept : ((x : X) → test x ≡ true → keep x ≡ true) → (xs : List X) → find test (filter keep xs) ≡ find test xs
    find_kept kept [] = refl
    find_kept kept (x ∷ xs) = kept_by kept x xs (keep x) (test x) refl refl (find_kept kept xs)

    gone_by : (gone : (x : X) → test x ≡ true → keep x ≡ false) (x : X) (xs : List X) (b d : Bool) → keep x ≡ b → test x ≡ d → find test (filter keep xs) ≡ None → find test (filter keep (x ∷ xs)) ≡ None
    gone_by gone x xs false d k t later = rw k later
    gone_by gone x xs true true k t later = absurd (cc (sym k ∙ gone x t))
    gone_by gone x xs true false k t later = rw (k, t) later

    -- what is looked for is taken away
    pub find_gone : ((x : X) → test x ≡ true → keep x ≡ false) → (xs : List X) → find test (filter keep xs) ≡ None
    find_gone gone [] = refl
    find_gone gone (x ∷ xs) = gone_by gone x xs (keep x) (test x) refl refl (find_gone gone xs)

  -- each row is changed, but not in what it is found by
  pub find_map : (f : X → X) → ((x : X) → test (f x) ≡ test x) → (xs : List X) → find test (map f xs) ≡ option_map f (find test xs)
  find_map f same [] = refl
  find_map f same (x ∷ xs) =
      rw (same x, find_map f same xs) (elim (test x) as (λ b. cond b (Some (f x)) (option_map f (find test xs)) ≡ option_map f (cond b (Some x) (find test xs))) [
        | true ↦ refl
        | false ↦ refl
      ])

-- ---- waits

lower : (n k a : ℕ) → k < n → (a == k) ≡ true → nat_lt a n ≡ true
lower n k a less e = grind (arith, nat_tests, e)

not_lower : (n k a : ℕ) → n ≤ k → (a == k) ≡ true → nat_lt a n ≡ false
not_lower n k a more e = grind (arith, nat_tests, e)

higher : (n k a : ℕ) → n < k → (a == k) ≡ true → nat_lt n a ≡ true
higher n k a more e = grind (arith, nat_tests, e)

not_higher : (n k a : ℕ) → k ≤ n → (a == k) ≡ true → nat_lt n a ≡ false
not_higher n k a less e = grind (arith, nat_tests, e)

module _ {X : Type 0} (key : X → ℕ) where
  -- the row that is put is found, and each other one as before
  pub found_where_put : (row : X) (rows : List X) (k : ℕ) (b : Bool) → (key row == k) ≡ b →
      find (λ r. key r == k) (filter (λ other. nat_lt (key other) (key row)) rows ++ row ∷ filter (λ other. nat_lt (key row) (key other)) rows) ≡ cond b (Some row) (find (λ r. key r == k) rows)
  found_where_put row rows k true e =
      let same : key row ≡ k = (Decides-eqb (key row) k).0 e in
      find_append (λ (r : X). key r == k) _ _
      ∙ ap (λ (o : Option X). or_first o (find (λ (r : X). key r == k) (row ∷ filter (λ other. nat_lt (key row) (key other)) rows))) (find_gone (λ (r : X). key r == k) (λ other. nat_lt (key other) (key row)) (λ r t. not_lower (key row) k (key r) (omega arith) t) rows)
      ∙ (rw e refl)
  found_where_put row rows k false e =
      let differs : key row ≢ k = λ same. cc (sym e ∙ (Decides-eqb (key row) k).1 same) in
      let parts = find_append (λ (r : X). key r == k) (filter (λ other. nat_lt (key other) (key row)) rows) (row ∷ filter (λ other. nat_lt (key row) (key other)) rows) in
      elim (cases_lt k (key row)) [
        | inl less ↦
            parts ∙ (rw (e, find_kept (λ (r : X). key r == k) (λ other. nat_lt (key other) (key row)) (λ r t. lower (key row) k (key r) less t) rows, find_gone (λ (r : X). key r == k) (λ other. nat_lt (key row) (key other)) (λ r t. not_higher (key row) k (key r) (omega arith) t) rows) (or_none (find (λ r. key r == k) rows)))
        | inr more ↦
            parts ∙ (rw (e, find_gone (λ (r : X). key r == k) (λ other. nat_lt (key other) (key row)) (λ r t. not_lower (key row) k (key r) more t) rows, find_kept (λ (r : X). key r == k) (λ other. nat_lt (key row) (key other)) (λ r t. higher (key row) k (key r) (omega (arith, differs, more)) t) rows) refl)
      ]

-- the wait that is put is found, and each other one as before
pub wait_put : (row : WaitRow) (waits : List WaitRow) (k : ℕ) (b : Bool) → (row.walker == k) ≡ b → wait_of (with_wait row waits) k ≡ cond b (Some row) (wait_of waits k)
wait_put row waits k b e = found_where_put (λ (r : WaitRow). r.walker) row waits k b e

pub both_ways : (a n k : ℕ) → (a == k) ≡ true → (n == k) ≡ false → not (a == n) ≡ true
both_ways a n k e d = grind (arith, nat_tests, e, d)

pub the_one : (a n k : ℕ) → (a == k) ≡ true → (n == k) ≡ true → not (a == n) ≡ false
the_one a n k e d = grind (arith, nat_tests, e, d)

-- the wait that is taken away is gone, and each other one is there as before
pub wait_taken : (n : ℕ) (waits : List WaitRow) (k : ℕ) (b : Bool) → (n == k) ≡ b → wait_of (without_wait n waits) k ≡ cond b None (wait_of waits k)
wait_taken n waits k true e = find_gone (λ (r : WaitRow). r.walker == k) (λ r. not (r.walker == n)) (λ r t. the_one r.walker n k t e) waits
wait_taken n waits k false e = find_kept (λ (r : WaitRow). r.walker == k) (λ r. not (r.walker == n)) (λ r t. both_ways r.walker n k t e) waits

pub no_wait_left : (walker : ℕ) (waits : List WaitRow) → wait_of (without_wait walker waits) walker ≡ None
no_wait_left walker waits = wait_taken walker waits walker true ((Decides-eqb walker walker).1 refl)

-- ---- tokens

pub token_taken : (t : ℕ) (tokens : List OpenToken) (k : ℕ) (b : Bool) → (t == k) ≡ b → token_of (without_token t tokens) k ≡ cond b None (token_of tokens k)
token_taken t tokens k true e = find_gone (λ (r : OpenToken). r.token == k) (λ r. not (r.token == t)) (λ r h. the_one r.token t k h e) tokens
token_taken t tokens k false e = find_kept (λ (r : OpenToken). r.token == k) (λ r. not (r.token == t)) (λ r h. both_ways r.token t k h e) tokens

pub token_last : (tokens : List OpenToken) (row : OpenToken) (k : ℕ) → token_of (tokens ++ row ∷ []) k ≡ or_first (token_of tokens k) (cond (row.token == k) (Some row) None)
token_last tokens row k = find_append (λ (r : OpenToken). r.token == k) tokens (row ∷ [])

abbrev pub joined_if : Bool → ℕ → Option OpenToken → Option OpenToken
joined_if true walker o = option_map (λ row. joined_row row walker) o
joined_if false walker o = o

joined_head : (t walker k : ℕ) (row : OpenToken) (tokens : List OpenToken) (b c d : Bool) → (row.token == t) ≡ b → (t == k) ≡ c → (row.token == k) ≡ d →
    token_of (with_waiter t walker tokens) k ≡ joined_if c walker (token_of tokens k) → token_of (with_waiter t walker (row ∷ tokens)) k ≡ joined_if c walker (token_of (row ∷ tokens) k)
joined_head t walker k row tokens true true true e f g later = rw (e, g) refl
joined_head t walker k row tokens true true false e f g later = absurd (grind (arith, nat_tests, e, f, g))
joined_head t walker k row tokens true false true e f g later = absurd (grind (arith, nat_tests, e, f, g))
joined_head t walker k row tokens true false false e f g later = rw (e, g) refl
joined_head t walker k row tokens false true true e f g later = absurd (grind (arith, nat_tests, e, f, g))
joined_head t walker k row tokens false true false e f g later = rw (e, g) later
joined_head t walker k row tokens false false true e f g later = rw (e, g) refl
joined_head t walker k row tokens false false false e f g later = rw (e, g) later

-- the token that a walker joins has one waiter more, and each other one is as before
pub token_joined : (t walker k : ℕ) (tokens : List OpenToken) (c : Bool) → (t == k) ≡ c → token_of (with_waiter t walker tokens) k ≡ joined_if c walker (token_of tokens k)
token_joined t walker k [] true e = refl
token_joined t walker k [] false e = refl
token_joined t walker k (row ∷ tokens) c e = joined_head t walker k row tokens (row.token == t) c (row.token == k) refl e refl (token_joined t walker k tokens c e)

-- rows that all stand above a number
pub absent : {X : Type 0} (key : X → ℕ) (k low : ℕ) (rows : List X) → RiseBy key low rows → k < low → find (λ row. key row == k) rows ≡ None
absent key k low [] h e = refl
absent key k low (row ∷ rows) h e =
    let differs : (key row == k) ≡ false = grind (arith, nat_tests, h.0) in
    rw differs (absent key k (key row + 1) rows h.1 (omega (arith, h.0)))

-- none, if it is of this file system
abbrev pub unless_of : ℕ → Option OpenToken → Option OpenToken
unless_of fs None = None
unless_of fs (Some row) = cond (row.trigger.fs == fs) None (Some row)

tokens_off_head : (fs k low : ℕ) (row : OpenToken) (tokens : List OpenToken) (b c : Bool) → (row.token == k) ≡ b → (row.trigger.fs == fs) ≡ c → RiseBy (λ r. r.token) low (row ∷ tokens) →
    token_of (filter (λ r. not (r.trigger.fs == fs)) tokens) k ≡ unless_of fs (token_of tokens k) → token_of (filter (λ r. not (r.trigger.fs == fs)) (row ∷ tokens)) k ≡ unless_of fs (token_of (row ∷ tokens) k)
tokens_off_head fs k low row tokens true true e f h later =
    let above : k < row.token + 1 = grind (arith, nat_tests, e) in
    rw (f, e) (absent (λ (r : OpenToken). r.token) k (row.token + 1) (filter (λ r. not (r.trigger.fs == fs)) tokens) (rises_filter (λ (r : OpenToken). r.token) (λ r. not (r.trigger.fs == fs)) (row.token + 1) tokens h.1) above ∙ (rw f refl))
tokens_off_head fs k low row tokens true false e f h later = rw (f, e) (rw f refl)
tokens_off_head fs k low row tokens false true e f h later = rw (f, e) later
tokens_off_head fs k low row tokens false false e f h later = rw (f, e) later

-- the tokens of a file system are gone, and each other one is there as before
pub tokens_off : (fs k low : ℕ) (tokens : List OpenToken) → RiseBy (λ r. r.token) low tokens → token_of (filter (λ r. not (r.trigger.fs == fs)) tokens) k ≡ unless_of fs (token_of tokens k)
tokens_off fs k low [] h = refl
tokens_off fs k low (row ∷ tokens) h = tokens_off_head fs k low row tokens (row.token == k) (row.trigger.fs == fs) refl refl h (tokens_off fs k (row.token + 1) tokens h.1)
