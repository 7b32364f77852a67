-- A row of releases behind what closes the tokens of its waiters is lawful.
use Rattle.std.proofs.Common.{◌≡◌, ℕ, Bool, true, false, List, [], ◌∷◌, ◌++◌, map, refl, sym, ap, subst, ◌∙◌, append_assoc}
use Rattle.std.specs.Prelude.{◌==◌, ◌&&◌, ◌||◌}
use Rattle.std.specs.List.{list_any, list_all, Contains}
use Rattle.std.proofs.lemmas.List.Folds.{list_any-append}
use Rattle.std.proofs.lemmas.List.Elements.{Contains-append_left}
use Rattle.am_names.specs.{Status}
use Rattle.am_names.proofs.Basics.{or_right, equal_to_itself, equal_by_test, or_neither}
use Rattle.am_state.specs.{Obs}
use Rattle.am_state.specs.declared.obs.Obs.TheVariants.{Waits, Released}
use Rattle.am_kernel.specs.Observations as kernel
use Rattle.am_laws.specs.{releases, is_released, IsOpen, IsInRow, Closes, MayBeReleased, AreLawful, is_in_row}
use Rattle.am_machine.specs.{has, AreDifferent}
use Rattle.am_laws.proofs.Words.{once_test, once_from_test, in_row_from_test}

-- a walker and a token on which it waits
pub record Waiter : Type 0 where
  pub walker : ℕ
  pub token : ℕ

abbrev pub row_of : Status → List Waiter → List Obs
row_of status [] = []
row_of status (w ∷ others) = Released w.walker w.token status ∷ row_of status others

abbrev pub is_waiter : ℕ → ℕ → Waiter → Bool
is_waiter walker token w = w.walker == walker && w.token == token

-- each is another than those before it
abbrev pub AreNew : List Waiter → List Waiter → Type 0
AreNew done [] = Unit {0}
AreNew done (w ∷ others) = (list_any (is_waiter w.walker w.token) done ≡ false) × AreNew (done ++ w ∷ []) others

-- after this trace, this cause releases the waiter
pub record MayGo (trace : List Obs) (cause : Obs) (status : Status) (w : Waiter) : Type 0 where
  pub closed : Closes trace w.token status cause
  pub was_open : IsOpen trace w.token
  pub waited : Contains trace (Waits w.walker w.token)
  pub not_yet : (s : Status) → ¬ Contains trace (Released w.walker w.token s)

abbrev pub AllMayGo : List Obs → Obs → Status → List Waiter → Type 0
AllMayGo trace cause status [] = Unit {0}
AllMayGo trace cause status (w ∷ others) = MayGo trace cause status w × AllMayGo trace cause status others

pub row_of-append : (status : Status) (xs ys : List Waiter) → row_of status (xs ++ ys) ≡ row_of status xs ++ row_of status ys
row_of-append status [] ys = refl
row_of-append status (w ∷ xs) ys = ap (λ (r : List Obs). Released w.walker w.token status ∷ r) (row_of-append status xs ys)

row_unbroken : (status : Status) (xs : List Waiter) → list_all is_released (row_of status xs) ≡ true
row_unbroken status [] = refl
row_unbroken status (w ∷ xs) = row_unbroken status xs

pub row_releases : (walker token : ℕ) (status : Status) (xs : List Waiter) → list_any (releases walker token) (row_of status xs) ≡ list_any (is_waiter walker token) xs
row_releases walker token status [] = refl
row_releases walker token status (w ∷ xs) = ap (λ (b : Bool). is_waiter walker token w || b) (row_releases walker token status xs)

row_has : (walker token : ℕ) (status : Status) (xs : List Waiter) → is_in_row (releases walker token) (row_of status xs) ≡ list_any (is_waiter walker token) xs
row_has walker token status [] = refl
row_has walker token status (w ∷ xs) = ap (λ (b : Bool). is_waiter walker token w || b) (row_has walker token status xs)

-- each of them is released in the row
pub released_in_row : (walker token : ℕ) (status : Status) (waiters : List Waiter) → list_any (is_waiter walker token) waiters ≡ true → IsInRow walker token (row_of status waiters)
released_in_row walker token status waiters is = in_row_from_test walker token (row_of status waiters) (row_has walker token status waiters ∙ is)

-- one after another
pub row_lawful : (trace : List Obs) (cause : Obs) (status : Status) (done todo : List Waiter) → ((walker token : ℕ) → releases walker token cause ≡ false) → AllMayGo trace cause status todo → AreNew done todo → AreLawful (trace ++ cause ∷ row_of status done) (row_of status todo)
row_lawful trace cause status done [] other h new = tt
row_lawful trace cause status done (w ∷ todo) other h new =
    let none : list_any (releases w.walker w.token) (row_of status done) ≡ false = row_releases w.walker w.token status done ∙ new.0 in
    let seen : List Obs = trace ++ cause ∷ row_of status done in
    let here : MayBeReleased seen w.walker w.token status = record {
      in_row = record { before = trace; cause = cause; row = row_of status done; splits = refl; unbroken = row_unbroken status done; closed = h.0.closed; was_open = h.0.was_open };
      waited = Contains-append_left trace (cause ∷ row_of status done) (Waits w.walker w.token) h.0.waited;
      once = once_from_test w.walker w.token seen (list_any-append (releases w.walker w.token) trace (cause ∷ row_of status done) ∙ or_neither _ _ (once_test w.walker w.token trace h.0.not_yet) (or_neither _ _ (other w.walker w.token) none));
    } in
    let longer : trace ++ cause ∷ row_of status (done ++ w ∷ []) ≡ seen ++ Released w.walker w.token status ∷ [] = ap (λ (r : List Obs). trace ++ cause ∷ r) (row_of-append status done (w ∷ [])) ∙ sym (append_assoc trace (cause ∷ row_of status done) (Released w.walker w.token status ∷ [])) in
    (here, subst (λ (b : List Obs). AreLawful b (row_of status todo)) longer (row_lawful trace cause status (done ++ w ∷ []) todo other h.1 new.1))

-- ---- the waiters of one token

abbrev pub on_token : ℕ → List ℕ → List Waiter
on_token token walkers = map (λ walker. record { walker = walker; token = token }) walkers

pub releases_row : (token : ℕ) (status : Status) (walkers : List ℕ) → kernel.releases token status walkers ≡ row_of status (on_token token walkers)
releases_row token status [] = refl
releases_row token status (w ∷ walkers) = ap (λ (r : List Obs). Released w token status ∷ r) (releases_row token status walkers)

waiter_here : (a b : Bool) (c d : Bool) → b ≡ true → c ≡ d → ((a && b) || c) ≡ (a || d)
waiter_here true b c d h e = rw h refl
waiter_here false b c d h e = e

pub on_token_has : (token walker : ℕ) (walkers : List ℕ) → list_any (is_waiter walker token) (on_token token walkers) ≡ has walker walkers
on_token_has token walker [] = refl
on_token_has token walker (w ∷ walkers) = waiter_here (w == walker) (token == token) _ _ (equal_to_itself token) (on_token_has token walker walkers)

-- ---- waiters that differ are each new

not_again : (a b old : Bool) → old ≡ false → a ≡ false → (old || ((a && b) || false)) ≡ false
not_again true b old e g = absurd cc
not_again false b true e g = absurd cc
not_again false b false e g = refl

pub other_number : (w v : ℕ) (numbers : List ℕ) (b : Bool) → (w == v) ≡ b → has w numbers ≡ false → has v numbers ≡ true → b ≡ false
other_number w v numbers true e none is = let yes : has w numbers ≡ true = subst (λ (n : ℕ). has n numbers ≡ true) (sym (equal_by_test w v e)) is in absurd cc
other_number w v numbers false e none is = refl

pub all_new : (token : ℕ) (done : List Waiter) (todo : List ℕ) → ((v : ℕ) → has v todo ≡ true → list_any (is_waiter v token) done ≡ false) → AreDifferent todo → AreNew done (on_token token todo)
all_new token done [] apart h = tt
all_new token done (w ∷ todo) apart h =
    let here : has w (w ∷ todo) ≡ true = rw (equal_to_itself w) refl in
    let this : Waiter = record { walker = w; token = token } in
    (apart w here, all_new token (done ++ this ∷ []) todo (λ v is. list_any-append (is_waiter v token) done (this ∷ []) ∙ not_again (w == v) (token == token) (list_any (is_waiter v token) done) (apart v (or_right (w == v) (has v todo) is)) (other_number w v todo (w == v) refl h.0 is)) h.1)
