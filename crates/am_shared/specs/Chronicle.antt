-- One history for all callers, of which each knows its own calls: own choice (docs/DECISIONS.md,
-- "A receipt is an entry of the one history").
use Rattle.std.proofs.Common.{zero, suc}
use Rattle.std.specs.Prelude.{◌≡◌, ℕ, ◌+◌, ◌-◌, ◌<◌, ◌≤◌, Bool, true, false, List, [], ◌∷◌, ◌++◌}
use Rattle.std.specs.Prelude.{length, All, Some, slice_get}
use mathlib.Core.Option.{Option, some, none}
use mathlib.Core.List.{IsPrefix}
use lib.ListN.{get_elem?}
use Rattle.atomic_table.specs.Table.{State}
use Rattle.am_machine.specs.{Entry}
use Rattle.am_shared.specs.declared.chronicle.Known.{Known}

-- f of each, added up
abbrev pub total : {A : Type 0} → (A → ℕ) → List A → ℕ
total f [] = 0
total f (x ∷ xs) = f x + total f xs

-- what a pass knows: whether it keeps the history, of how many callers, and all of it; for how
-- many callers it stands, the calls that they made, each with its position, and what they saw
abbrev pub known : Bool → ℕ → List Entry → ℕ → List (ℕ × Entry) → List Entry → Known
known keeps made all parts mine seen =
    record { keeps = keeps; made = made; all = all; parts = parts; mine = mine; seen = seen }

-- a pass that is used up
abbrev pub spent : Known
spent = known false 0 [] 0 [] []

-- the pass that keeps this history of so many callers
abbrev pub keeper : ℕ → List Entry → Known
keeper made all = known true made all 0 [] []

-- the pass of a caller that made these calls, and saw this beginning of the history
abbrev pub caller : List (ℕ × Entry) → List Entry → Known
caller mine seen = known false 0 [] 1 mine seen

-- h of each position that stands here, added up
abbrev pub weigh : (ℕ → ℕ) → List (ℕ × Entry) → ℕ
weigh h calls = total (λ x. h x.0) calls

-- h of 1 to n, added up
abbrev pub weigh_to : (ℕ → ℕ) → ℕ → ℕ
weigh_to h zero = 0
weigh_to h (suc n) = weigh_to h n + h (suc n)

-- the history has each of these calls at its position, where the first is 1
abbrev pub AreIn : List Entry → List (ℕ × Entry) → Type 0
AreIn log calls = All (λ x. (0 < x.0) × (slice_get log (x.0 - 1) ≡ Some x.1)) calls

-- what a pass knows is so
pub record FitsHistory (keeps made : ℕ) (log : List Entry) (pass : ℕ) (v : Known) : Type 0 where
  pub all : v.keeps ≡ true → (pass ≡ keeps) × (v.all ≡ log) × (v.made ≡ made)
  pub calls : AreIn log v.mine
  pub seen : IsPrefix v.seen log
  pub idle : v.parts ≡ 0 → v.keeps ≡ false → v.mine ≡ []

-- what each pass knows is so
abbrev pub AllFitHistory : ℕ → ℕ → List Entry → List Known → Type 0
AllFitHistory keeps made log views =
    (pass : ℕ) (v : Known) → get_elem? views pass ≡ some v → FitsHistory keeps made log pass v

-- there is a history: one pass keeps it, each pass knows what is so, the passes stand for all
-- callers, and what these made has each position once
pub record IsHistory {S : Type 0} (s : State S Known) : Type 0 where
  pub keeps : ℕ
  pub made : ℕ
  pub log : List Entry
  pub parts : total (λ (v : Known). v.parts) s.views ≡ made
  pub once : (h : ℕ → ℕ) → total (λ (v : Known). weigh h v.mine) s.views ≡ weigh_to h (length log)
  pub each : AllFitHistory keeps made log s.views

-- the keeper takes a caller's pass in
abbrev pub taken_in : Known → Known → Known
taken_in v u = known v.keeps v.made v.all (v.parts + u.parts) (v.mine ++ u.mine) u.seen

-- it gives one back that has seen all
abbrev pub rested : Known → Known
rested v = known v.keeps v.made v.all 0 [] []

abbrev pub given_back : Known → Known
given_back v = known false 0 [] v.parts v.mine v.all

-- one caller more
abbrev pub with_caller : Known → Known
with_caller v = known v.keeps (v.made + 1) v.all v.parts v.mine v.seen

-- an entry more, which is a call of the caller that was taken in
abbrev pub recorded : Known → Entry → Known
recorded v e =
    known v.keeps v.made (v.all ++ e ∷ []) v.parts (v.mine ++ (length v.all + 1, e) ∷ []) v.seen

-- what is announced of a step, if it is anything
abbrev pub IfSaid : {A : Type 0} → Option A → (A → Type 0) → Type 0
IfSaid none P = Unit {0}
IfSaid (some x) P = P x

-- what the keeper learns of the caller that it has taken in
pub record Learned (v : Known) : Type 0 where
  pub few : v.parts ≤ v.made
  pub calls : AreIn v.all v.mine
  pub seen : IsPrefix v.seen v.all
  pub once : v.parts ≡ v.made → (h : ℕ → ℕ) → weigh h v.mine ≡ weigh_to h (length v.all)
