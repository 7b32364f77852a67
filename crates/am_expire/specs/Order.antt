-- In which order the triggers come to expire, and how far a pick goes up that order: own choice
-- (docs/DECISIONS.md, "The order of last uses is held with the triggers" and "Of several triggers that
-- were last used at one moment the one with the least name expires first").
use Rattle.std.specs.Prelude.{◌≡◌, ℕ, ◌+◌, ◌==◌, ◌||◌, ◌&&◌, Bool, false, not, List, length, map, get_or, filter, Option, Some, None, cond, if◌then◌else◌}
use Rattle.std.specs.Cmp.Lexicographic.{slice_cmp}
use Rattle.std.specs.declared.cmp.Ordering.{Ordering}
use Rattle.std.specs.List.{count_by, position}
use Rattle.std.specs.List.Sorted.{IsSorted}
use Rattle.std.specs.Option.{option_cmp, option_map, unwrap_or}
use Rattle.std.specs.Ordering.{nat_cmp, ordering_then}
use Rattle.am_names.specs.declared.trigger.Trigger.{Trigger}
use Rattle.am_ordered.specs.{IsOrderOf}
use Rattle.am_expire.specs.Pick.{Expiry, is_due, is_eligible}

-- by file system, then by last use, then by the bytes of the name, of which none is the least
abbrev pub use_cmp : Trigger × ℕ → Trigger × ℕ → Ordering
use_cmp row other =
    ordering_then (nat_cmp row.0.fs other.0.fs)
    (ordering_then (nat_cmp row.1 other.1)
    (option_cmp (slice_cmp nat_cmp) row.0.name other.0.name))

-- the same rows, each as often
abbrev pub AreSame : List (Trigger × ℕ) → List (Trigger × ℕ) → Type 0
AreSame rows others = (test : Trigger × ℕ → Bool) → count_by test rows ≡ count_by test others

-- these last uses, in the order in which they expire
pub record IsOrder (uses rows : List (Trigger × ℕ)) : Type 0 where
  pub rising : IsSorted use_cmp rows
  pub same : AreSame rows uses

-- what stands where there is no last use
abbrev pub no_use : Trigger × ℕ
no_use = (record { fs = 0; name = None }, 0)

-- the last use at this place
abbrev pub row_at : List (Trigger × ℕ) → ℕ → Trigger × ℕ
row_at uses place = get_or uses place no_use

-- the last uses at these places
abbrev pub rows_at : List (Trigger × ℕ) → List ℕ → List (Trigger × ℕ)
rows_at uses places = map (row_at uses) places

-- these are the places of all last uses, each once, in the order in which they expire
pub record IsListed (uses : List (Trigger × ℕ)) (places : List ℕ) : Type 0 where
  pub order : IsOrder uses (rows_at uses places)
  pub once : IsOrderOf (length uses) places

-- there is a last use, and it passes the test
abbrev pub passes : (Trigger × ℕ → Bool) → Option (Trigger × ℕ) → Bool
passes test None = false
passes test (Some row) = test row

-- it is the last use of a trigger of the file system
abbrev pub is_of : ℕ → Trigger × ℕ → Bool
is_of fs row = row.0.fs == fs

-- ---- a change of the order

-- a trigger that was used before has a row
abbrev pub has_last : Trigger → (Trigger × ℕ → Bool) → Option ℕ → ℕ
has_last trigger test None = 0
has_last trigger test (Some last) = cond (test (trigger, last)) 1 0

-- the second has the trigger's use at this moment, and no longer its last use, if there was one
abbrev pub IsTouched :
    Trigger → Option ℕ → ℕ → List (Trigger × ℕ) → List (Trigger × ℕ) → Type 0
IsTouched trigger last moment old new =
    (test : Trigger × ℕ → Bool) →
    count_by test new + has_last trigger test last ≡ count_by test old + cond (test (trigger, moment)) 1 0

-- ---- how far a pick goes up

-- a pick goes no further: this one may expire; or it isn't due, and so is none behind it
abbrev pub is_end : Expiry → Trigger × ℕ → Bool
is_end e row = not (is_due e.timeout e.moment e.immediate row.1) || is_eligible e row

-- how many of these rows a pick looks at: those up to and with the one at which it ends, or all
abbrev pub looks_up : Expiry → List (Trigger × ℕ) → ℕ
looks_up e rows = unwrap_or (option_map (λ k. k + 1) (position (is_end e) rows)) (length rows)

-- there is no timeout, and so none is due
abbrev pub is_off : Expiry → Bool
is_off e = not e.immediate && e.timeout == 0

-- how many of these rows a pick looks at; none, where none is due for want of a timeout
abbrev pub looks_in : Expiry → List (Trigger × ℕ) → ℕ
looks_in e rows = if is_off e then 0 else looks_up e rows

-- so many of the last uses of the file system, which stand in order; none, where none is due
abbrev pub IsLooks : Expiry → ℕ → Type 0
IsLooks e looks =
    (rows : List (Trigger × ℕ)) ×
    IsOrder (filter (is_of e.fs) e.triggers.uses) rows ×
    (looks ≡ looks_in e rows)
