-- The notes of a trace.
use Rattle.std.proofs.Common.{◌≡◌, ◌+◌, List, [], ◌∷◌, ◌++◌, Option, Some, None}
use Rattle.std.proofs.Common.{length, refl, sym, ap, ◌∙◌, arith}
use Rattle.std.specs.List.{count_by}
use Rattle.am_state.specs.{Obs}
use Rattle.am_state.specs.declared.obs.Obs.TheVariants as seen
use Rattle.am_laws.specs.{is_queued}
use Rattle.am_machine.proofs.Lists.Counts.{count_cons}
use Rattle.am_pipe.specs.{Note}
use Rattle.am_shared.specs.{note, note_at, before, notes_of}

before_append : (o : Option Note) (xs ys : List Note) → before o xs ++ ys ≡ before o (xs ++ ys)
before_append None xs ys = refl
before_append (Some n) xs ys = refl

pub notes_append : (xs ys : List Obs) → notes_of (xs ++ ys) ≡ notes_of xs ++ notes_of ys
notes_append [] ys = refl
notes_append (o ∷ xs) ys =
    ap (before (note_at o)) (notes_append xs ys)
    ∙ sym (before_append (note_at o) (notes_of xs) (notes_of ys))

-- there are as many as queued packets
pub notes_count : (obs : List Obs) → length (notes_of obs) ≡ count_by is_queued obs
notes_count [] = refl
notes_count (seen.Queued k a p ∷ rest) =
    let there : count_by is_queued (seen.Queued k a p ∷ rest) ≡ 1 + count_by is_queued rest =
    count_cons is_queued (seen.Queued k a p) rest in
    let here : length (note k a p ∷ notes_of rest) ≡ 1 + length (notes_of rest) = omega arith in
    omega (arith, here, there, notes_count rest)
notes_count (seen.Waits w k ∷ rest) = notes_count rest
notes_count (seen.Answered k s ∷ rest) = notes_count rest
notes_count (seen.Catatonic fs ∷ rest) = notes_count rest
notes_count (seen.Released w k s ∷ rest) = notes_count rest
notes_count (seen.Passed w g ∷ rest) = notes_count rest
notes_count (seen.Entered w m ∷ rest) = notes_count rest
notes_count (seen.Left w m ∷ rest) = notes_count rest
notes_count (seen.Mounted ms ∷ rest) = notes_count rest
notes_count (seen.Unmounted ms ∷ rest) = notes_count rest
notes_count (seen.Delivered k a p ∷ rest) = notes_count rest
notes_count (seen.Recorded g e ∷ rest) = notes_count rest
notes_count (seen.Reattached fs a ∷ rest) = notes_count rest
notes_count (seen.Died ∷ rest) = notes_count rest
