-- What a step adds to the trace is what is seen of its event.
use Rattle.std.proofs.Common.{◌≡◌, ℕ, Bool, List, ◌++◌, length, drop, Option, sym, ap, ◌∙◌, subst, inl, inr, append-nil}
use Rattle.std.proofs.Math.Seq.{drop-append_seam}
use Rattle.am_machine.specs.{Event, Answer, Step, RanOut, Comes}
use Rattle.am_machine.specs.State.{State}
use Rattle.am_script.specs.{Output, is_refused, owed_by, Stands, Settles, Puts, Numbered, IsAnswered}
use Rattle.am_state.specs.{Obs}
use Rattle.am_views.specs.{TraceStyle, shown_text, traced}

pub grows : (s next : State) (event : Event) (answer : Answer) (seen : List Obs) → Step s event answer seen next → next.trace ≡ s.trace ++ seen
grows s next event answer seen (inl out) =
    ap (λ (t : State). t.trace) out.same ∙ sym (append-nil s.trace) ∙ ap (λ (t : List Obs). s.trace ++ t) (sym out.nothing)
grows s next event answer seen (inr comes) =
    ap (λ (t : State). t.trace) comes.left ∙ ap (λ (t : List Obs). s.trace ++ t) (sym comes.shown)

-- what stands behind the trace so far is what is seen
pub seen_is : (s next : State) (event : Event) (answer : Answer) (seen shown : List Obs) (before : ℕ) → Step s event answer seen next → before ≡ length s.trace → shown ≡ drop before next.trace → shown ≡ seen
seen_is s next event answer seen shown before step e f =
    f ∙ ap (drop before) (grows s next event answer seen step) ∙ ap (λ (n : ℕ). drop n (s.trace ++ seen)) e ∙ drop-append_seam s.trace seen

pub shows : (style : TraceStyle) (s next : State) (event : Event) (answer : Answer) (seen shown : List Obs) (number before : ℕ) (kept mid keeps : Output) (old now new : Option (List ℕ)) (refused : Bool) → Step s event answer seen next → before ≡ length s.trace → shown ≡ drop before next.trace → Settles kept mid old now → mid.line ≡ number → Puts mid keeps (shown_text style (record { asked = record { line = number; event = event }; answer = answer; seen = shown })) now new → refused ≡ is_refused answer → IsAnswered (traced style) s event next number kept keeps old new refused
shows style s next event answer seen shown number before kept mid keeps old now new refused step e f begun line put test =
    let asked : Numbered = record { line = number; event = event } in record {
      answer = answer;
      seen = seen;
      step = step;
      puts = λ all start stands. subst (λ (seen : List Obs). Stands keeps (all ++ owed_by number (shown_text style (record { asked = asked; answer = answer; seen = seen }))) start new) (seen_is s next event answer seen shown before step e f) (subst (λ (n : ℕ). Stands keeps (all ++ owed_by n (shown_text style (record { asked = asked; answer = answer; seen = shown }))) start new) line (put.puts all start (begun all start stands)));
      test = test;
    }
