-- The waiters of all open tokens of a file system.
use Rattle.std.proofs.Common.{◌≡◌, ℕ, ◌+◌, ◌<◌, Bool, true, false, cond, ◌==◌, List, [], ◌∷◌, ◌++◌, map, Option, Some, None, refl, sym, ap, ◌∙◌, subst, append_assoc, arith}
use Rattle.std.specs.Prelude.{filter, ◌&&◌, ◌||◌}
use Rattle.std.specs.List.{list_any, flat_map}
use Rattle.std.proofs.lemmas.List.{append-nil}
use Rattle.std.proofs.lemmas.List.Concat.{flat_map-cons}
use Rattle.std.proofs.lemmas.List.Folds.{list_any-append}
use Rattle.std.proofs.lemmas.Bool.Decides.{nat_tests}
use Rattle.am_names.specs.declared.fail_no.FailNo.TheVariants.{ENOENT}
use Rattle.am_names.specs.declared.trigger.Status.TheVariants.{Fail}
use Rattle.am_names.specs.{OpenToken, RiseBy}
use Rattle.am_names.proofs.Basics.{or_right, equal_to_itself, equal_by_test, or_neither}
use Rattle.am_state.specs.{Obs}
use Rattle.am_wait.specs.{token_of, tokens_of, waiters_in, waiters_of}
use Rattle.am_wait.proofs.FindLemmas.{absent}
use Rattle.am_kernel.specs.{KernelState, failures}
use Rattle.am_machine.specs.{has, AreDifferent, AgreeOnWaiters}
use Rattle.am_machine.proofs.Traces.Releases.{Waiter, is_waiter, AreNew, row_of, row_of-append, on_token, on_token_has, releases_row, all_new, other_number}
use Rattle.am_machine.proofs.Traces.Counts.{or_neither_and}

-- the token is of this file system
abbrev pub is_its : ℕ → Option OpenToken → Bool
is_its fs None = false
is_its fs (Some row) = row.trigger.fs == fs

-- the waiters of these tokens, one token after another
abbrev pub waiters_over : List OpenToken → List ℕ → List Waiter
waiters_over tokens [] = []
waiters_over tokens (token ∷ others) = on_token token (waiters_of tokens token) ++ waiters_over tokens others

-- ---- they are released in their order

pub failures_row : (k : KernelState) (tokens : List ℕ) → flat_map (failures k) tokens ≡ row_of (Fail ENOENT) (waiters_over k.waits.tokens tokens)
failures_row k [] = refl
failures_row k (token ∷ others) =
    let waiters = waiters_of k.waits.tokens token in
    flat_map-cons (failures k) token others
    ∙ ap (λ (r : List Obs). r ++ flat_map (failures k) others) (releases_row token (Fail ENOENT) waiters)
    ∙ ap (λ (r : List Obs). row_of (Fail ENOENT) (on_token token waiters) ++ r) (failures_row k others)
    ∙ sym (row_of-append (Fail ENOENT) (on_token token waiters) (waiters_over k.waits.tokens others))

-- ---- who is one of them

on_other : (token k w : ℕ) (walkers : List ℕ) → (token == k) ≡ false → list_any (is_waiter w k) (on_token token walkers) ≡ false
on_other token k w [] e = refl
on_other token k w (v ∷ walkers) e = or_neither_and (v == w) (token == k) (list_any (is_waiter w k) (on_token token walkers)) e (on_other token k w walkers e)

or_with_its_part : (x y c h : Bool) → x ≡ h → y ≡ (c && h) → (x || y) ≡ h
or_with_its_part x y c true e g = rw e refl
or_with_its_part x y true false e g = rw (e, g) refl
or_with_its_part x y false false e g = rw (e, g) refl

waiters_over_by_cases : (tokens : List OpenToken) (w k token : ℕ) (others : List ℕ) (b : Bool) → (token == k) ≡ b → list_any (is_waiter w k) (waiters_over tokens others) ≡ (has k others && has w (waiters_of tokens k)) →
    (list_any (is_waiter w k) (on_token token (waiters_of tokens token)) || list_any (is_waiter w k) (waiters_over tokens others)) ≡ ((b || has k others) && has w (waiters_of tokens k))
waiters_over_by_cases tokens w k token others true e later =
    or_with_its_part _ _ (has k others) (has w (waiters_of tokens k)) (subst (λ (n : ℕ). list_any (is_waiter w n) (on_token token (waiters_of tokens token)) ≡ has w (waiters_of tokens n)) (equal_by_test token k e) (on_token_has token w (waiters_of tokens token))) later
waiters_over_by_cases tokens w k token others false e later =
    ap (λ (b : Bool). b || list_any (is_waiter w k) (waiters_over tokens others)) (on_other token k w (waiters_of tokens token) e) ∙ later

pub over_has : (tokens : List OpenToken) (w k : ℕ) (others : List ℕ) → list_any (is_waiter w k) (waiters_over tokens others) ≡ (has k others && has w (waiters_of tokens k))
over_has tokens w k [] = refl
over_has tokens w k (token ∷ others) =
    list_any-append (is_waiter w k) (on_token token (waiters_of tokens token)) (waiters_over tokens others)
    ∙ waiters_over_by_cases tokens w k token others (token == k) refl (over_has tokens w k others)

token_of_fs_by_cases : (fs k : ℕ) (row : OpenToken) (tokens : List OpenToken) (b c : Bool) → (row.token == k) ≡ b → (row.trigger.fs == fs) ≡ c → RiseBy (λ (r : OpenToken). r.token) (row.token + 1) tokens → has k (tokens_of tokens fs) ≡ is_its fs (token_of tokens k) →
    has k (map (λ (r : OpenToken). r.token) (cond c (row ∷ filter (λ r. r.trigger.fs == fs) tokens) (filter (λ r. r.trigger.fs == fs) tokens))) ≡ is_its fs (cond b (Some row) (token_of tokens k))
token_of_fs_by_cases fs k row tokens true true e f rises later = rw (e, f) refl
token_of_fs_by_cases fs k row tokens true false e f rises later =
    let above : k < row.token + 1 = grind (arith, nat_tests, e) in
    later ∙ ap (is_its fs) (absent (λ (r : OpenToken). r.token) k (row.token + 1) tokens rises above) ∙ sym f
token_of_fs_by_cases fs k row tokens false true e f rises later = rw e later
token_of_fs_by_cases fs k row tokens false false e f rises later = later

-- the open tokens of the file system are those whose rows say so
pub its_tokens : (fs k low : ℕ) (tokens : List OpenToken) → RiseBy (λ (r : OpenToken). r.token) low tokens → has k (tokens_of tokens fs) ≡ is_its fs (token_of tokens k)
its_tokens fs k low [] h = refl
its_tokens fs k low (row ∷ tokens) h = token_of_fs_by_cases fs k row tokens (row.token == k) (row.trigger.fs == fs) refl refl h.1 (its_tokens fs k (row.token + 1) tokens h.1)

-- ---- each of them is new

differ_by_cases : (fs : ℕ) (row : OpenToken) (tokens : List OpenToken) (c : Bool) → RiseBy (λ (r : OpenToken). r.token) (row.token + 1) tokens → AreDifferent (tokens_of tokens fs) →
    AreDifferent (map (λ (r : OpenToken). r.token) (cond c (row ∷ filter (λ r. r.trigger.fs == fs) tokens) (filter (λ r. r.trigger.fs == fs) tokens)))
differ_by_cases fs row tokens true rises later =
    (its_tokens fs row.token (row.token + 1) tokens rises ∙ ap (is_its fs) (absent (λ (r : OpenToken). r.token) row.token (row.token + 1) tokens rises (omega arith)), later)
differ_by_cases fs row tokens false rises later = later

pub tokens_differ : (fs low : ℕ) (tokens : List OpenToken) → RiseBy (λ (r : OpenToken). r.token) low tokens → AreDifferent (tokens_of tokens fs)
tokens_differ fs low [] h = tt
tokens_differ fs low (row ∷ tokens) h = differ_by_cases fs row tokens (row.trigger.fs == fs) h.1 (tokens_differ fs (row.token + 1) tokens h.1)

walkers_differ : (tokens : List OpenToken) (trace : List Obs) (k : ℕ) (found : Option OpenToken) → token_of tokens k ≡ found → AgreeOnWaiters tokens trace → AreDifferent (waiters_in found)
walkers_differ tokens trace k None e h = tt
walkers_differ tokens trace k (Some row) e h = (h k row e).different

new_append : (done first second : List Waiter) → AreNew done first → AreNew (done ++ first) second → AreNew done (first ++ second)
new_append done [] second h g = subst (λ (d : List Waiter). AreNew d second) (append-nil done) g
new_append done (w ∷ first) second h g =
    (h.0, new_append (done ++ w ∷ []) first second h.1 (subst (λ (d : List Waiter). AreNew d second) (sym (append_assoc done (w ∷ []) first)) g))

pub over_new : (tokens : List OpenToken) (trace : List Obs) (done : List Waiter) (others : List ℕ) → ((w k : ℕ) → has k others ≡ true → list_any (is_waiter w k) done ≡ false) → AreDifferent others → AgreeOnWaiters tokens trace → AreNew done (waiters_over tokens others)
over_new tokens trace done [] apart h waiters = tt
over_new tokens trace done (token ∷ others) apart h waiters =
    let walkers = waiters_of tokens token in
    let here : has token (token ∷ others) ≡ true = rw (equal_to_itself token) refl in
    new_append done (on_token token walkers) (waiters_over tokens others)
    (all_new token done walkers (λ v is. apart v token here) (walkers_differ tokens trace token (token_of tokens token) refl waiters))
    (over_new tokens trace (done ++ on_token token walkers) others
    (λ w k is. list_any-append (is_waiter w k) done (on_token token walkers) ∙ or_neither _ _ (apart w k (or_right (token == k) (has k others) is)) (on_other token k w walkers (other_number token k others (token == k) refl h.0 is)))
    h.1 waiters)
