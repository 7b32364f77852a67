-- An event more, which is a call of a caller.
use Rattle.std.proofs.Common.{◌≡◌, ℕ, ◌+◌, ◌-◌, List, [], ◌∷◌, ◌++◌, length, Some, slice_get, sym, ap}
use Rattle.std.proofs.Common.{◌∙◌, ◌≤◌, subst, arith, length-append, length-take-le, take, take-append-drop}
use Rattle.am_machine.specs.{Answer, Entry, Event, Setup, entry, setup_of}
use Rattle.am_world.specs.Capacity.{state_of}
use mathlib.Core.List.{IsPrefix}
use Rattle.am_shared.specs.{Account, Applies, IsShared, IsSharedFrom, IsTaken, Keep, Sees, StandsLast, all_taken}
use Rattle.am_shared.specs.{left_of}
use Rattle.am_shared.specs.declared.shared.Taken.{Taken}
use Rattle.am_shared.specs.Sharing.{Sharing}
use Rattle.am_shared.specs.Chronicle.{AreIn, keeper}
use Rattle.am_shared.specs.{Known}
use Rattle.atomic_table.specs.Seated.{TableId}
use Rattle.std.specs.Prelude.{Option, MatchOption}
use Rattle.am_shared.proofs.ApplyLemmas.{kept_opening, shared_from}
use Rattle.am_shared.proofs.CallLemmas.{below}
use Rattle.am_shared.proofs.ChronicleLemmas.{get_last, in_both, in_more, in_one}

some_same : {A : Type 0} (x y : A) → Some x ≡ Some y → x ≡ y
some_same x y e = cc

-- the last of the history is the event with its answer
pub last_is : (h later : List Entry) (e last : Entry) → later ≡ h ++ e ∷ []
    → slice_get later (length later - 1) ≡ Some last → last ≡ e
last_is h later e last is at =
    let long : length later - 1 ≡ length h =
    omega (arith, ap length is, length-append h (e ∷ [])) in
    some_same last e (sym at ∙ (λ i. slice_get (is i) (long i)) ∙ get_last h e)

-- the call stands behind those that the caller made before
pub stands_last : (o : Setup) (old new : Sharing) (event : Event) (position : ℕ) (answer : Answer)
    (before behind : Known) → Applies old new event position answer → IsShared new
    → setup_of (state_of old.world) ≡ o → AreIn old.history before.mine
    → IsPrefix before.seen old.history → behind.seen ≡ old.history ++ entry event answer ∷ []
    → StandsLast o before behind position (entry event answer)
stands_last o old new event position answer before behind h shared opening calls goes_on seen =
    let e = entry event answer in
    let mine = before.mine in
    let long : length new.history ≡ length old.history + 1 =
    omega (arith, ap length h.history, length-append old.history (e ∷ [])) in
    let there : slice_get (old.history ++ e ∷ []) (position - 1) ≡ Some e =
    ap (slice_get (old.history ++ e ∷ [])) (omega (arith, h.is_last, long)) ∙ get_last old.history e in
    let all : AreIn (old.history ++ e ∷ []) (mine ++ (position, e) ∷ []) =
    in_both (old.history ++ e ∷ []) mine ((position, e) ∷ []) (in_more old.history (e ∷ []) mine calls)
    (in_one (old.history ++ e ∷ []) position e (omega (arith, h.is_last, long)) there) in record {
      world = new;
      shared = shared_from o new shared (kept_opening old new event position answer h ∙ opening);
      calls = subst (λ (l : List Entry). AreIn l (mine ++ (position, e) ∷ [])) (sym h.history) all;
      above = below old.history mine position (omega (arith, h.is_last, long)) calls;
      first = omega (arith, h.is_last, long);
      is_last = h.is_last;
      earlier = old.history;
      goes_on = goes_on;
      whole = h.history;
      seen = seen ∙ sym h.history;
    }

-- what is kept of a shared world that isn't given away yet
pub kept_of : (callers : ℕ) (o : Setup) (pipe : TableId) (takers room : ℕ) (keep : Keep) (keeping : Known)
    (found : Option Sharing) (s : Sharing) → found ≡ Some s
    → MatchOption found (keeping.parts ≡ callers)
    (λ s. (keeping ≡ keeper callers s.history) × (setup_of (state_of s.world) ≡ o)
    × (s.put.pipe ≡ pipe) × (s.put.takers ≡ takers) × (s.put.room ≡ room) × (s.keep ≡ keep))
    → (keeping ≡ keeper callers s.history) × (setup_of (state_of s.world) ≡ o)
    × (s.put.pipe ≡ pipe) × (s.put.takers ≡ takers) × (s.put.room ≡ room) × (s.keep ≡ keep)
kept_of callers o pipe takers room keep keeping found s is kept = subst
    (λ (f : Option Sharing). MatchOption f (keeping.parts ≡ callers)
    (λ s. (keeping ≡ keeper callers s.history) × (setup_of (state_of s.world) ≡ o)
    × (s.put.pipe ≡ pipe) × (s.put.takers ≡ takers) × (s.put.room ≡ room) × (s.keep ≡ keep))) is kept

-- so it is once all its entries are taken
pub kept_taken : (callers : ℕ) (o : Setup) (pipe : TableId) (takers room : ℕ) (keep : Keep) (keeping : Known)
    (old new : Sharing) → new ≡ all_taken old
    → (keeping ≡ keeper callers old.history) × (setup_of (state_of old.world) ≡ o)
    × (old.put.pipe ≡ pipe) × (old.put.takers ≡ takers) × (old.put.room ≡ room) × (old.keep ≡ keep)
    → (keeping ≡ keeper callers new.history) × (setup_of (state_of new.world) ≡ o)
    × (new.put.pipe ≡ pipe) × (new.put.takers ≡ takers) × (new.put.room ≡ room) × (new.keep ≡ keep)
kept_taken callers o pipe takers room keep keeping old new is kept = subst
    (λ (s : Sharing). (keeping ≡ keeper callers s.history) × (setup_of (state_of s.world) ≡ o)
    × (s.put.pipe ≡ pipe) × (s.put.takers ≡ takers) × (s.put.room ≡ room) × (s.keep ≡ keep)) (sym is) kept

-- what was left of a history comes behind what was taken before
pub taken_of : (o : Setup) (old new : Account) (taken : Taken) (s : Sharing)
    → IsSharedFrom o s → Sees s old new → taken.before ≡ s.taken → taken.entries.items ≡ left_of s
    → s.taken ≤ length s.history → IsTaken o old new taken
taken_of o old new taken s shared sees before left within = record {
  world = s;
  shared = shared;
  sees = sees;
  before = before;
  earlier = take s.taken s.history;
  count = before ∙ sym (length-take-le s.taken s.history within);
  whole = sym (take-append-drop s.taken s.history) ∙ ap (λ l. take s.taken s.history ++ l) (sym left);
}
