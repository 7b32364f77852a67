-- The receipts of all callers against the history: own choice (docs/DECISIONS.md, "A receipt is an entry of the one
-- history").
use Rattle.std.specs.Prelude.{◌≡◌, ℕ, ◌+◌, ◌-◌, ◌<◌, ◌≤◌, ◌==◌, if◌then◌else◌, List, [], ◌∷◌, length}
use Rattle.std.specs.Prelude.{Some, slice_get}
use Rattle.am_machine.specs.{Entry, entry}
use Rattle.am_shared.specs.declared.caller.Receipt.{Receipt}
use Rattle.am_shared.specs.Accounts.{Account}

-- the history has the receipt's event, with its answer, at its position, where the first is 1
abbrev pub Agrees : List Entry → Receipt → Type 0
Agrees history r =
    (0 < r.position) × (slice_get history (r.position - 1) ≡ Some (entry r.event r.answer))

-- each receipt does so
abbrev pub AllAgree : List Entry → List Receipt → Type 0
AllAgree history [] = Unit {0}
AllAgree history (r ∷ rs) = Agrees history r × AllAgree history rs

-- so do those of each caller
abbrev pub EachAgree : List Entry → List Account → Type 0
EachAgree history [] = Unit {0}
EachAgree history (caller ∷ rest) = AllAgree history caller.receipts × EachAgree history rest

-- what is left behind so many entries that were taken has the receipt's event, with its answer, at its
-- position, unless that was taken
abbrev pub AgreesLeft : ℕ → List Entry → Receipt → Type 0
AgreesLeft taken left r =
    (0 < r.position) × (taken < r.position → slice_get left (r.position - 1 - taken) ≡ Some (entry r.event r.answer))

-- each receipt does so
abbrev pub AllAgreeLeft : ℕ → List Entry → List Receipt → Type 0
AllAgreeLeft taken left [] = Unit {0}
AllAgreeLeft taken left (r ∷ rs) = AgreesLeft taken left r × AllAgreeLeft taken left rs

-- so do those of each caller
abbrev pub EachAgreeLeft : ℕ → List Entry → List Account → Type 0
EachAgreeLeft taken left [] = Unit {0}
EachAgreeLeft taken left (caller ∷ rest) = AllAgreeLeft taken left caller.receipts × EachAgreeLeft taken left rest

-- positions rise, from above low
abbrev pub Rise : ℕ → List Receipt → Type 0
Rise low [] = Unit {0}
Rise low (r ∷ rs) = (low < r.position) × Rise r.position rs

-- so do those of each caller
abbrev pub EachRise : List Account → Type 0
EachRise [] = Unit {0}
EachRise (caller ∷ rest) = Rise 0 caller.receipts × EachRise rest

-- how many receipts have this position
abbrev pub times : ℕ → List Receipt → ℕ
times position [] = 0
times position (r ∷ rs) = (if r.position == position then 1 else 0) + times position rs

-- how many of all callers
abbrev pub times_in : ℕ → List Account → ℕ
times_in position [] = 0
times_in position (caller ∷ rest) = times position caller.receipts + times_in position rest

-- how many receipts there are
abbrev pub count_in : List Account → ℕ
count_in [] = 0
count_in (caller ∷ rest) = length caller.receipts + count_in rest

-- Each position of the history stands in just one receipt; each receipt has the event and the
-- answer at its position; and the positions of each caller rise.
pub record Matches (history : List Entry) (callers : List Account) : Type 0 where
  pub once : (k : ℕ) → k < length history → times_in (k + 1) callers ≡ 1
  pub agree : EachAgree history callers
  pub rise : EachRise callers

-- no position stands in more than one receipt
abbrev pub AtMostOnce : List Account → Type 0
AtMostOnce callers = (position : ℕ) → times_in position callers ≤ 1

-- none of these positions stands in any receipt of the callers
abbrev pub AllAway : List Receipt → List Account → Type 0
AllAway [] callers = Unit {0}
AllAway (r ∷ rs) callers = (times_in r.position callers ≡ 0) × AllAway rs callers
