-- What an event `kind` would be answered.
use Rattle.std.proofs.Common.{◌≡◌, ◌⊎◌, ℕ, List, [], ◌++◌, Option, None, Some, Result, Ok, Err, IfOk, refl, sym, ap, subst, inl, inr, append-nil}
use Rattle.am_group.specs.{MountState}
use Rattle.am_kernel.specs.{kind_at, kind_refusal}
use Rattle.am_machine.specs.{Comes, RanOut, kind_told, unless}
use Rattle.am_machine.specs.EventOutcome.{EventOutcome}
use Rattle.am_machine.specs.State.{State}
use Rattle.am_machine.specs.declared.answer.Answer.TheVariants as answers
use Rattle.am_names.specs.{RefusedAs}
use Rattle.am_names.specs.declared.errno.Errno.{Errno}
use Rattle.am_names.specs.declared.errno.Errno.TheVariants.{NoMemory}
use Rattle.am_state.specs.{Obs}
use Rattle.am_session.specs.Sessions.{IsKind}

nothing_seen : (s : State) → s ≡ record s { trace = s.trace ++ [] }
nothing_seen s = ap (λ (t : List Obs). record s { trace = t }) (sym (append-nil s.trace))

kind_comes : (first : Option Errno) (found : Option MountState) (s : State) (kind : MountState) → first ≡ None → found ≡ Some kind → Comes (unless first s (kind_told found s)) s (answers.Kind kind) [] s
kind_comes first found s kind e f =
    subst (λ (x : Option Errno). Comes (unless x s (kind_told found s)) s (answers.Kind kind) [] s) (sym e)
    (subst (λ (x : Option MountState). Comes (kind_told x s) s (answers.Kind kind) [] s) (sym f)
    (record { told = refl; shown = refl; left = nothing_seen s }))

kind_refused : (first : Option Errno) (s : State) (done : EventOutcome) (e : Errno) → RefusedAs {T = MountState} first (Err e) → RanOut s (answers.Refused e) [] s ⊎ Comes (unless first s done) s (answers.Refused e) [] s
kind_refused first s done NoMemory h = inl (record { told = refl; nothing = refl; same = refl })
kind_refused first s done e h =
    inr (subst (λ (x : Option Errno). Comes (unless x s done) s (answers.Refused e) [] s) (sym h)
    (record { told = refl; shown = refl; left = nothing_seen s }))

-- the state that is found, or the test that fails first, is the answer
pub kind_is : (s : State) (ns : ℕ) (path : List (List ℕ)) (came : Result MountState Errno) → RefusedAs (kind_refusal s.kernel ns path) came → IfOk came (λ kind. kind_at s.kernel ns path ≡ Some kind) → IsKind s ns path came
kind_is s ns path (Ok kind) refusal ok = inr (kind_comes (kind_refusal s.kernel ns path) (kind_at s.kernel ns path) s kind refusal ok)
kind_is s ns path (Err e) refusal ok = kind_refused (kind_refusal s.kernel ns path) s (kind_told (kind_at s.kernel ns path) s) e refusal
