-- Where numbers and texts first stand in a list, as it is kept. For the code alone: own choice.
use Rattle.std.specs.Prelude.{◌≡◌, ℕ, List, Option}
use Rattle.std.specs.Borrow.{Bor}
use Rattle.std.specs.Ordering.{nat_cmp}
use Rattle.std.specs.Cmp.Lexicographic.{slice_cmp}
use Rattle.std.specs.BTreeMap.{BTreeMap, get, get_by}
use Rattle.am_import.specs.declared.likeness.Row.{Row}
use Rattle.am_import.specs.Likeness.{place_of, showing_of}

-- the first place of each number is kept
abbrev pub AreFirsts : BTreeMap ℕ ℕ → List (Option ℕ) → Type 0
AreFirsts places numbers = (n : ℕ) → get nat_cmp places n ≡ place_of n numbers

-- the place that is kept of a text
abbrev pub shown_in : BTreeMap (Bor (List ℕ)) ℕ → List ℕ → Option ℕ
shown_in places shown = get_by (λ k. slice_cmp nat_cmp shown k.now) places

-- the first place of what each line shows is kept
abbrev pub AreShown : BTreeMap (Bor (List ℕ)) ℕ → List Row → Type 0
AreShown places rows = (shown : List ℕ) → shown_in places shown ≡ showing_of rows shown
