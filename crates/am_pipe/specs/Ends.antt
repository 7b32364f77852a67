-- What contracts see of the ends of a pipe
-- (autofs.rst, "Communicating with autofs: the event pipe").
use Rattle.std.specs.Prelude.{◌≡◌, ℕ, ◌+◌, ◌-◌, ◌<◌, ◌≤◌, ◌==◌, List, [], ◌∷◌, ◌++◌, Some, slice_get}
use Rattle.std.specs.Prelude.{All, if◌then◌else◌, nat_le, nat_lt, ◌&&◌, ◌||◌, ◌^◌, Bool, false, length}
use Rattle.atomic_table.specs.Seated.{TableId}
use Rattle.am_pipe.specs.declared.note.Note.{Note}

-- the put end: its pipe, how many notes the pipe has room for, how many take ends it has, the
-- notes that were put, in order, how often it read the number of takes that are over, and the
-- number that it read last
pub record Putter : Type 0 where
  pub pipe : TableId
  pub room : ℕ
  pub takers : ℕ
  pub sent : List Note
  pub looks : ℕ
  pub freed : ℕ

-- a take end: its pipe, the notes that it took, in order, each with its position, whether it found
-- the pipe closed, how often it looked at the numbers, and what it read then: how many puts were over,
-- and after that how many takes
pub record Taker : Type 0 where
  pub pipe : TableId
  pub got : List (ℕ × Note)
  pub over : Bool
  pub looks : ℕ
  pub seen : ℕ
  pub freed : ℕ

-- a take end that has done nothing
abbrev pub fresh_taker : TableId → Taker
fresh_taker pipe = record { pipe = pipe; got = []; over = false; looks = 0; seen = 0; freed = 0 }

-- each note whose put was over when the take end looked last was taken then
abbrev pub IsDrained : Taker → Type 0
IsDrained take = take.seen ≤ take.freed

-- a pipe has room for one note more behind so many, of which so many were taken, and a position
abbrev pub has_room : ℕ → ℕ → ℕ → Bool
has_room put taken room = nat_lt put (2 ^ 64 - 1) && (nat_lt put room || nat_lt (put - room) taken)

-- there is none, by the number of takes that the put end read last
abbrev pub IsFull : Putter → Type 0
IsFull put = has_room (length put.sent) put.freed put.room ≡ false

-- what these take ends took, one end after another
abbrev pub taken_by : List Taker → List (ℕ × Note)
taken_by [] = []
taken_by (t ∷ ts) = t.got ++ taken_by ts

-- each of these is the note that was put at its position, where the first position is 1
abbrev pub AreAsPut : List Note → List (ℕ × Note) → Type 0
AreAsPut sent notes = All (λ x. (0 < x.0) × (slice_get sent (x.0 - 1) ≡ Some x.1)) notes

-- f of each, added up
abbrev pub total : {A : Type 0} → (A → ℕ) → List A → ℕ
total f [] = 0
total f (x ∷ xs) = f x + total f xs

-- how often a note of this position stands here
abbrev pub times : ℕ → List (ℕ × Note) → ℕ
times position notes = total (λ x. if x.0 == position then 1 else 0) notes

-- 1 for a position from 1 to n, and else 0
abbrev pub once_to : ℕ → ℕ → ℕ
once_to n position = if nat_lt 0 position && nat_le position n then 1 else 0

-- each position from 1 to n stands here once, and no other position stands here
abbrev pub HasEachOnce : ℕ → List (ℕ × Note) → Type 0
HasEachOnce n notes = (position : ℕ) → times position notes ≡ once_to n position
