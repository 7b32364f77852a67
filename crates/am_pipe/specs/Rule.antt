-- The rule of a pipe's queue: it holds what was put, in order, without what was taken. Its queue
-- and the views of its ends are all that is spoken of: own choice (docs/DECISIONS.md, "A note is
-- put while the lock is held, and taken without it").
use Rattle.std.proofs.Common.{zero, suc}
use Rattle.std.specs.Prelude.{◌≡◌, ℕ, ◌+◌, ◌-◌, ◌<◌, ◌≤◌, Bool, true, false, List, [], ◌∷◌, ◌++◌}
use Rattle.std.specs.Prelude.{length, drop, All, Some, slice_get}
use mathlib.Core.Option.{some}
use lib.ListN.{get_elem?}
use Rattle.crossbeam_queue.specs.Passes.{Pass, view}
use Rattle.am_pipe.specs.declared.note.Note.{Note}
use Rattle.am_pipe.specs.declared.rule.EndView.{EndView}
use Rattle.am_pipe.specs.Ends.{total}

-- what an end knows: whether it puts, how many take ends were made, how many of these it stands
-- for, what it put, and what it took
abbrev pub end_view : Bool → ℕ → ℕ → List Note → List (ℕ × Note) → EndView
end_view puts made parts sent got =
    record { puts = puts; made = made; parts = parts; sent = sent; got = got }

-- what the end with this pass knows
abbrev pub known : Pass (ℕ × Note) EndView → EndView
known pass = view pass

-- the notes with their positions, the first at k + 1
abbrev pub numbered : ℕ → List Note → List (ℕ × Note)
numbered k [] = []
numbered k (n ∷ ns) = (suc k, n) ∷ numbered (suc k) ns

-- h of each position that stands here, added up
abbrev pub weigh : (ℕ → ℕ) → List (ℕ × Note) → ℕ
weigh h notes = total (λ x. h x.0) notes

-- h of 1 to n, added up
abbrev pub weigh_to : (ℕ → ℕ) → ℕ → ℕ
weigh_to h zero = 0
weigh_to h (suc n) = weigh_to h n + h (suc n)

-- of the first k notes put, each of these is the one at its position
abbrev pub AreTaken : List Note → ℕ → List (ℕ × Note) → Type 0
AreTaken sent k got =
    All (λ x. (0 < x.0) × (x.0 ≤ k) × (slice_get sent (x.0 - 1) ≡ Some x.1)) got

-- what an end knows is so: the one that puts is the writer, and knows what was put and how many
-- take ends there are; what an end took was put and taken; an end that was given up took nothing
pub record FitsPipe (writer made : ℕ) (sent : List Note) (taken end : ℕ)
    (v : EndView) : Type 0 where
  pub writes : v.puts ≡ true → (end ≡ writer) × (v.sent ≡ sent) × (v.made ≡ made)
  pub held : AreTaken sent taken v.got
  pub idle : v.parts ≡ 0 → v.puts ≡ false → v.got ≡ []

-- what each end knows is so
abbrev pub AllFitPipe : ℕ → ℕ → List Note → ℕ → List EndView → Type 0
AllFitPipe writer made sent taken views =
    (end : ℕ) (v : EndView) → get_elem? views end ≡ some v → FitsPipe writer made sent taken end v

-- there are notes that were put, of which so many were taken: the queue holds the others, in order;
-- the ends stand for all take ends; what they took has each of the positions taken once; and what
-- each of them knows is so
pub record IsPipe (items : List (ℕ × Note)) (views : List EndView) : Type 0 where
  pub writer : ℕ
  pub made : ℕ
  pub sent : List Note
  pub taken : ℕ
  pub few : taken ≤ length sent
  pub is : items ≡ drop taken (numbered 0 sent)
  pub parts : total (λ (v : EndView). v.parts) views ≡ made
  pub once : (h : ℕ → ℕ) → total (λ (v : EndView). weigh h v.got) views ≡ weigh_to h taken
  pub each : AllFitPipe writer made sent taken views

-- a put: the note joins what was put
abbrev pub Puts : EndView → ℕ × Note → EndView → Type 0
Puts v x w = w ≡ end_view v.puts v.made v.parts (v.sent ++ x.1 ∷ []) v.got

-- the queue holds what was put, but for the first of it
abbrev pub HoldsRest : EndView → List (ℕ × Note) → Type 0
HoldsRest v items = (k : ℕ) × (k ≤ length v.sent) × (items ≡ drop k (numbered 0 v.sent))

-- a take: the note joins what was taken, and all that this end took before has a lower position
abbrev pub Takes : EndView → ℕ × Note → EndView → Type 0
Takes v x w =
    (w ≡ end_view v.puts v.made v.parts v.sent (v.got ++ x ∷ [])) × All (λ y. y.0 < x.0) v.got

-- what the put end knows once it stands for all take ends: the queue holds what was put, in order,
-- without what was taken, and that has each of its positions once
pub record KnowsAll (v : EndView) (items : List (ℕ × Note)) : Type 0 where
  pub few : length v.got ≤ length v.sent
  pub is : items ≡ drop (length v.got) (numbered 0 v.sent)
  pub held : AreTaken v.sent (length v.got) v.got
  pub once : (h : ℕ → ℕ) → weigh h v.got ≡ weigh_to h (length v.got)
