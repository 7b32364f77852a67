-- Lanes change as is seen.
use Rattle.std.proofs.Common.{◌≡◌, ℕ, ◌+◌, Bool, false, List, [], ◌∷◌, ◌++◌, length, replicate, Option, None, Some, inl, inr, refl, sym, ap, ◌∙◌, subst, append_assoc, arith, if◌then◌else◌}
use Rattle.std.specs.List.{flat_map}
use Rattle.std.proofs.lemmas.Bool.Decides.{nat_tests}
use Rattle.am_names.specs.declared.errno.Errno.TheVariants as errnos
use Rattle.am_kernel.specs.{KernelState}
use Rattle.am_state.specs.{Obs}
use Rattle.am_state.specs.declared.obs.Obs.TheVariants as seen
use Rattle.am_machine.specs.{Answer, Event, Step}
use Rattle.am_machine.specs.State.{State}
use Rattle.am_machine.specs.declared.answer.Answer.TheVariants.{Refused}
use Rattle.am_machine.specs.declared.event.Event.TheVariants as events
use Rattle.am_script.specs.{Numbered}
use Rattle.am_lanes.specs.{Change, HaveBars, Holder, bar_behind, behind_all, behind_change, grown_by, with_room}
use Rattle.am_lanes.proofs.ToldLemmas.{all_told}
use Rattle.am_draw.specs.{Failing, Lasts, Part, Size, Viewed, ViewedRun, acted, added, added_behind, asked_in, behind, changed, first_lasts, fresh_in, is_out_of_memory, is_past, lanes_for, lasts_behind, next_lasts, nothing_lasts, roomed, roomed_for, seen_added, seen_behind, turned, turned_added, with_begun, with_ended, with_failing_lane}
use Rattle.am_draw.proofs.FailingLemmas.{Follow, Goes, all_grown, all_turned, begun_lanes, failures_are_seen, grown_both, grown_lanes, room_lanes, turned_both, turned_lanes}
use Rattle.am_draw.proofs.NewestLemmas.{step_goes}
use Rattle.am_draw.specs.Changes.{BarsAreSeen, NobodyLosesABar, actor_changes, changes_of_daemon, changes_of_systems, changes_of_tokens, changes_of_walkers, daemon_changes, living_changes, system_changes, token_changes, walker_changes}

-- ---- changes one after another

behind_both : (lanes : List (Option Holder)) (a b : List Change) → behind_all lanes (a ++ b) ≡ behind_all (behind_all lanes a) b
behind_both lanes [] b = refl
behind_both lanes (change ∷ a) b = behind_both (behind_change lanes change) a b

grown_more : (lanes : List (Option Holder)) (a b : List Change) → grown_by lanes (a ++ b) ≡ grown_by (grown_by lanes a) b
grown_more lanes [] b = refl
grown_more lanes (change ∷ a) b = grown_more (behind_change (with_room lanes change) change) a b

-- what changes in the lanes of each kind; in those of failures, events by their numbers, and the kernels that
-- they leave
pub record Turn : Type 0 where
  pub tokens : List Change
  pub walkers : List Change
  pub systems : List Change
  pub daemon : List Change
  pub failures : List (ℕ × KernelState)

-- these changes
abbrev turn_of : List Change → List Change → List Change → List Change → List (ℕ × KernelState) → Turn
turn_of tokens walkers systems daemon failures =
    record { tokens = tokens; walkers = walkers; systems = systems; daemon = daemon; failures = failures }

-- the one, and then the other
abbrev pub both : Turn → Turn → Turn
both a b = record {
  tokens = a.tokens ++ b.tokens;
  walkers = a.walkers ++ b.walkers;
  systems = a.systems ++ b.systems;
  daemon = a.daemon ++ b.daemon;
  failures = a.failures ++ b.failures;
}

-- the lanes behind these changes
abbrev pub by_changes : Lasts → Turn → Lasts
by_changes lasts turn = record {
  tokens = behind_all lasts.tokens turn.tokens;
  walkers = behind_all lasts.walkers turn.walkers;
  systems = behind_all lasts.systems turn.systems;
  daemon = behind_all lasts.daemon turn.daemon;
  failures = all_turned lasts.negative lasts.failures turn.failures;
  negative = lasts.negative;
}

-- and where lanes are added
abbrev pub grown_to : Lasts → Turn → Lasts
grown_to lasts turn = record {
  tokens = grown_by lasts.tokens turn.tokens;
  walkers = grown_by lasts.walkers turn.walkers;
  systems = grown_by lasts.systems turn.systems;
  daemon = grown_by lasts.daemon turn.daemon;
  failures = all_grown lasts.negative lasts.failures turn.failures;
  negative = lasts.negative;
}

-- these lanes
abbrev lanes_of : List (Option Holder) → List (Option Holder) → List (Option Holder) → List (Option Holder) → List (Option Failing) → ℕ → Lasts
lanes_of tokens walkers systems daemon failures negative =
    record { tokens = tokens; walkers = walkers; systems = systems; daemon = daemon; failures = failures; negative = negative }

lanes_same : (n : ℕ) (a a2 b b2 c c2 d d2 : List (Option Holder)) (x x2 : List (Option Failing)) → a ≡ a2 → b ≡ b2 → c ≡ c2 → d ≡ d2 → x ≡ x2 → lanes_of a b c d x n ≡ lanes_of a2 b2 c2 d2 x2 n
lanes_same n a a2 b b2 c c2 d d2 x x2 e f g h i =
    ap (λ (t : List (Option Holder)). lanes_of t b c d x n) e
    ∙ ap (λ (t : List (Option Holder)). lanes_of a2 t c d x n) f
    ∙ ap (λ (t : List (Option Holder)). lanes_of a2 b2 t d x n) g
    ∙ ap (λ (t : List (Option Holder)). lanes_of a2 b2 c2 t x n) h
    ∙ ap (λ (t : List (Option Failing)). lanes_of a2 b2 c2 d2 t n) i

by_both : (lasts : Lasts) (a b : Turn) → by_changes (by_changes lasts a) b ≡ by_changes lasts (both a b)
by_both lasts a b =
    lanes_same lasts.negative _ _ _ _ _ _ _ _ _ _
    (sym (behind_both lasts.tokens a.tokens b.tokens))
    (sym (behind_both lasts.walkers a.walkers b.walkers))
    (sym (behind_both lasts.systems a.systems b.systems))
    (sym (behind_both lasts.daemon a.daemon b.daemon))
    (sym (turned_both lasts.negative lasts.failures a.failures b.failures))

grown_of_both : (lasts : Lasts) (a b : Turn) → grown_to (grown_to lasts a) b ≡ grown_to lasts (both a b)
grown_of_both lasts a b =
    lanes_same lasts.negative _ _ _ _ _ _ _ _ _ _
    (sym (grown_more lasts.tokens a.tokens b.tokens))
    (sym (grown_more lasts.walkers a.walkers b.walkers))
    (sym (grown_more lasts.systems a.systems b.systems))
    (sym (grown_more lasts.daemon a.daemon b.daemon))
    (sym (grown_both lasts.negative lasts.failures a.failures b.failures))

-- ---- an observation

abbrev pub of_obs : ℕ → Obs → Turn
of_obs number obs = record {
  tokens = token_changes number obs;
  walkers = walker_changes number obs;
  systems = system_changes number obs;
  daemon = daemon_changes number obs;
  failures = [];
}

abbrev pub of_seen : ℕ → List Obs → Turn
of_seen number seen = record {
  tokens = flat_map (token_changes number) seen;
  walkers = flat_map (walker_changes number) seen;
  systems = flat_map (system_changes number) seen;
  daemon = flat_map (daemon_changes number) seen;
  failures = [];
}

one_changes : (number : ℕ) (lasts : Lasts) (obs : Obs) → changed number lasts obs ≡ by_changes lasts (of_obs number obs)
one_changes number lasts (seen.Queued token attach packet) = refl
one_changes number lasts (seen.Waits walker token) = refl
one_changes number lasts (seen.Answered token status) = refl
one_changes number lasts (seen.Catatonic fs) = refl
one_changes number lasts (seen.Released walker token status) = refl
one_changes number lasts (seen.Passed walker trigger) = refl
one_changes number lasts (seen.Entered walker mount) = refl
one_changes number lasts (seen.Left walker mount) = refl
one_changes number lasts (seen.Mounted mounts) = refl
one_changes number lasts (seen.Unmounted mounts) = refl
one_changes number lasts (seen.Delivered token attach packet) = refl
one_changes number lasts (seen.Recorded trigger entry) = refl
one_changes number lasts (seen.Reattached fs attach) = refl
one_changes number lasts seen.Died = refl

one_grows : (number : ℕ) (lasts : Lasts) (obs : Obs) → changed number (roomed lasts obs) obs ≡ grown_to lasts (of_obs number obs)
one_grows number lasts (seen.Queued token attach packet) = refl
one_grows number lasts (seen.Waits walker token) = refl
one_grows number lasts (seen.Answered token status) = refl
one_grows number lasts (seen.Catatonic fs) = refl
one_grows number lasts (seen.Released walker token status) = refl
one_grows number lasts (seen.Passed walker trigger) = refl
one_grows number lasts (seen.Entered walker mount) = refl
one_grows number lasts (seen.Left walker mount) = refl
one_grows number lasts (seen.Mounted mounts) = refl
one_grows number lasts (seen.Unmounted mounts) = refl
one_grows number lasts (seen.Delivered token attach packet) = refl
one_grows number lasts (seen.Recorded trigger entry) = refl
one_grows number lasts (seen.Reattached fs attach) = refl
one_grows number lasts seen.Died = refl

seen_changes : (number : ℕ) (lasts : Lasts) (seen : List Obs) → seen_behind number lasts seen ≡ by_changes lasts (of_seen number seen)
seen_changes number lasts [] = refl
seen_changes number lasts (obs ∷ seen) =
    seen_changes number (changed number lasts obs) seen
    ∙ ap (λ (l : Lasts). by_changes l (of_seen number seen)) (one_changes number lasts obs)
    ∙ by_both lasts (of_obs number obs) (of_seen number seen)

seen_grows : (number : ℕ) (lasts : Lasts) (seen : List Obs) → seen_added number lasts seen ≡ grown_to lasts (of_seen number seen)
seen_grows number lasts [] = refl
seen_grows number lasts (obs ∷ seen) =
    seen_grows number (changed number (roomed lasts obs) obs) seen
    ∙ ap (λ (l : Lasts). grown_to l (of_seen number seen)) (one_grows number lasts obs)
    ∙ grown_of_both lasts (of_obs number obs) (of_seen number seen)

-- ---- an event

abbrev pub of_actor : ℕ → Event → Turn
of_actor number event = record {
  tokens = [];
  walkers = actor_changes number event;
  systems = [];
  daemon = living_changes event;
  failures = [];
}

-- before its moment ends or begins a failure
abbrev pub of_shown : ℕ → Event → List Obs → Turn
of_shown number event seen = both (of_actor number event) (of_seen number seen)

-- what an event changes of which this is seen, and which leaves this kernel
abbrev pub of_event : ℕ → Event → List Obs → KernelState → Turn
of_event number event seen k = record (of_shown number event seen) { failures = (number, k) ∷ [] }

actor_acts : (number : ℕ) (lasts : Lasts) (event : Event) → acted number lasts event ≡ by_changes lasts (of_actor number event)
actor_acts number lasts (events.Walk walker ns path now pipe) = refl
actor_acts number lasts (events.Resume walker now pipe) = refl
actor_acts number lasts (events.Leave walker) = refl
actor_acts number lasts (events.Expire walker fs now immediate pipe) = refl
actor_acts number lasts (events.Attach path) = refl
actor_acts number lasts (events.Reattach fs) = refl
actor_acts number lasts event = refl

actor_grows : (number : ℕ) (lasts : Lasts) (event : Event) → acted number (roomed_for lasts event) event ≡ grown_to lasts (of_actor number event)
actor_grows number lasts (events.Walk walker ns path now pipe) = refl
actor_grows number lasts (events.Resume walker now pipe) = refl
actor_grows number lasts (events.Leave walker) = refl
actor_grows number lasts (events.Expire walker fs now immediate pipe) = refl
actor_grows number lasts (events.Attach path) = refl
actor_grows number lasts (events.Reattach fs) = refl
actor_grows number lasts event = refl

begun_is : (o : Option Failing) (lasts : Lasts) → with_begun o lasts ≡ record lasts { failures = begun_lanes o lasts.failures }
begun_is None lasts = refl
begun_is (Some held) lasts = refl

grown_is : (o : Option Failing) (lasts : Lasts) → with_begun o (with_failing_lane o lasts) ≡ record lasts { failures = begun_lanes o (room_lanes o lasts.failures) }
grown_is None lasts = refl
grown_is (Some held) lasts = refl

kernel_turns : (number : ℕ) (k : KernelState) (lasts : Lasts) → turned number k lasts ≡ record lasts { failures = turned_lanes lasts.negative lasts.failures (number, k) }
kernel_turns number k lasts = begun_is (fresh_in number k (with_ended k lasts)) (with_ended k lasts)

kernel_grows : (number : ℕ) (k : KernelState) (lasts : Lasts) → turned_added number k lasts ≡ record lasts { failures = grown_lanes lasts.negative lasts.failures (number, k) }
kernel_grows number k lasts = grown_is (fresh_in number k (with_ended k lasts)) (with_ended k lasts)

shown_changes : (number : ℕ) (lasts : Lasts) (event : Event) (seen : List Obs) → seen_behind number (acted number lasts event) seen ≡ by_changes lasts (of_shown number event seen)
shown_changes number lasts event seen =
    seen_changes number (acted number lasts event) seen
    ∙ ap (λ (l : Lasts). by_changes l (of_seen number seen)) (actor_acts number lasts event)
    ∙ by_both lasts (of_actor number event) (of_seen number seen)

shown_grows : (number : ℕ) (lasts : Lasts) (event : Event) (seen : List Obs) → seen_added number (acted number (roomed_for lasts event) event) seen ≡ grown_to lasts (of_shown number event seen)
shown_grows number lasts event seen =
    seen_grows number (acted number (roomed_for lasts event) event) seen
    ∙ ap (λ (l : Lasts). grown_to l (of_seen number seen)) (actor_grows number lasts event)
    ∙ grown_of_both lasts (of_actor number event) (of_seen number seen)

event_changes : (number : ℕ) (lasts : Lasts) (event : Event) (seen : List Obs) (k : KernelState) → behind number lasts event seen k ≡ by_changes lasts (of_event number event seen k)
event_changes number lasts event seen k =
    ap (turned number k) (shown_changes number lasts event seen)
    ∙ kernel_turns number k (by_changes lasts (of_shown number event seen))

event_grows : (number : ℕ) (lasts : Lasts) (event : Event) (seen : List Obs) (k : KernelState) → added number lasts event seen k ≡ grown_to lasts (of_event number event seen k)
event_grows number lasts event seen k =
    ap (turned_added number k) (shown_grows number lasts event seen)
    ∙ kernel_grows number k (grown_to lasts (of_shown number event seen))

-- ---- all events

-- the kernels that these events leave, of which the first has this number
abbrev pub kernels_of : ℕ → List Viewed → List (ℕ × KernelState)
kernels_of number [] = []
kernels_of number (row ∷ rows) = (number, row.after) ∷ kernels_of (number + 1) rows

-- what these events change, of which the first has this number
abbrev pub of_rows : ℕ → List Viewed → Turn
of_rows number rows = record {
  tokens = changes_of_tokens number rows;
  walkers = changes_of_walkers number rows;
  systems = changes_of_systems number rows;
  daemon = changes_of_daemon number rows;
  failures = kernels_of number rows;
}

all_grow : (number : ℕ) (lasts : Lasts) (rows : List Viewed) → added_behind number lasts rows ≡ grown_to lasts (of_rows number rows)
all_grow number lasts [] = refl
all_grow number lasts (row ∷ rows) =
    let here : Lasts = added number lasts row.asked.event row.seen row.after in
    all_grow (number + 1) here rows
    ∙ ap (λ (l : Lasts). grown_to l (of_rows (number + 1) rows)) (event_grows number lasts row.asked.event row.seen row.after)
    ∙ grown_of_both lasts (of_event number row.asked.event row.seen row.after) (of_rows (number + 1) rows)

-- failures last as long as they did in the beginning
pub lanes_last : (start : State) (rows : List Viewed) → (lanes_for start rows).negative ≡ start.kernel.negative
lanes_last start rows = ap (λ (l : Lasts). l.negative) (all_grow 1 (nothing_lasts 0 0 0 0 0 start.kernel.negative) rows)

not_past : (part : Part) (number more : ℕ) → is_past part (number + more) ≡ false → is_past part number ≡ false
not_past part number more e = grind (arith, nat_tests, e)

all_change : (part : Part) (number : ℕ) (lasts : Lasts) (rows : List Viewed) → is_past part (number + length rows) ≡ false → lasts_behind part (number + 1) lasts rows ≡ by_changes lasts (of_rows (number + 1) rows)
all_change part number lasts [] e = refl
all_change part number lasts (row ∷ rows) e =
    let last : is_past part (number + 1 + length rows) ≡ false = subst (λ (n : ℕ). is_past part n ≡ false) (omega arith) e in
    let here : next_lasts part (number + 1) lasts row.asked.event row.seen row.after ≡ behind (number + 1) lasts row.asked.event row.seen row.after =
    ap (λ (b : Bool). if b then lasts else behind (number + 1) lasts row.asked.event row.seen row.after) (not_past part (number + 1) (length rows) last) in
    all_change part (number + 1) (next_lasts part (number + 1) lasts row.asked.event row.seen row.after) rows last
    ∙ ap (λ (l : Lasts). by_changes l (of_rows (number + 1 + 1) rows)) (here ∙ event_changes (number + 1) lasts row.asked.event row.seen row.after)
    ∙ by_both lasts (of_event (number + 1) row.asked.event row.seen row.after) (of_rows (number + 1 + 1) rows)

-- ---- the events that are drawn come first of those that were counted

no_room : (a : Answer) → a ≡ Refused errnos.NoMemory → is_out_of_memory a ≡ false → ⊥
no_room a e f = absurd (cc (rw e at f))

-- a step that isn't refused for want of memory is the only one
step_same : (s : State) (event : Event) (a b : Answer) (x y : List Obs) (m n : State) → Step s event a x m → Step s event b y n → is_out_of_memory a ≡ false → is_out_of_memory b ≡ false → (x ≡ y) × (m ≡ n)
step_same s event a b x y m n (inl r) q e f = absurd (no_room a r.told e)
step_same s event a b x y m n (inr p) (inl r) e f = absurd (no_room b r.told f)
step_same s event a b x y m n (inr p) (inr q) e f = (p.shown ∙ sym q.shown, p.left ∙ sym q.left)

-- what all events change begins with what these do
pub record Begins (number : ℕ) (all rows : List Viewed) : Type 0 where
  pub later : Turn
  pub parted : of_rows number all ≡ both (of_rows number rows) later

turn_same : (a a2 b b2 c c2 d d2 : List Change) (x x2 : List (ℕ × KernelState)) → a ≡ a2 → b ≡ b2 → c ≡ c2 → d ≡ d2 → x ≡ x2 → turn_of a b c d x ≡ turn_of a2 b2 c2 d2 x2
turn_same a a2 b b2 c c2 d d2 x x2 e f g h i =
    ap (λ (t : List Change). turn_of t b c d x) e
    ∙ ap (λ (t : List Change). turn_of a2 t c d x) f
    ∙ ap (λ (t : List Change). turn_of a2 b2 t d x) g
    ∙ ap (λ (t : List Change). turn_of a2 b2 c2 t x) h
    ∙ ap (λ (t : List (ℕ × KernelState)). turn_of a2 b2 c2 d2 t) i

both_parted : (a b c : Turn) → both a (both b c) ≡ both (both a b) c
both_parted a b c =
    turn_same _ _ _ _ _ _ _ _ _ _
    (sym (append_assoc a.tokens b.tokens c.tokens))
    (sym (append_assoc a.walkers b.walkers c.walkers))
    (sym (append_assoc a.systems b.systems c.systems))
    (sym (append_assoc a.daemon b.daemon c.daemon))
    (sym (append_assoc a.failures b.failures c.failures))

begins : (number : ℕ) (start ends now : State) (all rows : List Viewed) (left : List Numbered) → ViewedRun start all ends → ViewedRun start rows now → asked_in all ≡ asked_in rows ++ left → Begins number all rows
begins number start ends now all [] left r q e = record { later = of_rows number all; parted = refl }
begins number start ends now [] (row ∷ rows) left r q e = absurd cc
begins number start ends now (a ∷ all) (row ∷ rows) left r q e =
    let asked : a.asked ≡ row.asked = cc e in
    let rest : asked_in all ≡ asked_in rows ++ left = cc e in
    let event : a.asked.event ≡ row.asked.event = ap (λ (n : Numbered). n.event) asked in
    let step : Step start row.asked.event a.answer a.seen r.0 = subst (λ (o : Event). Step start o a.answer a.seen r.0) event r.1.step in
    let same = step_same start row.asked.event a.answer row.answer a.seen row.seen r.0 q.0 step q.1.step r.1.has_room q.1.has_room in
    let later = begins (number + 1) q.0 ends now all rows left (subst (λ (s : State). ViewedRun s all ends) same.1 r.2) q.2 rest in
    let after : a.after ≡ row.after = r.1.after ∙ ap (λ (s : State). s.kernel) same.1 ∙ sym q.1.after in
    let here : Turn = of_event number row.asked.event row.seen row.after in
    record {
      later = later.later;
      parted =
          ap (λ (k : KernelState). both (of_event number a.asked.event a.seen k) (of_rows (number + 1) all)) after
          ∙ ap (λ (x : List Obs). both (of_event number a.asked.event x row.after) (of_rows (number + 1) all)) same.0
          ∙ ap (λ (o : Event). both (of_event number o row.seen row.after) (of_rows (number + 1) all)) event
          ∙ ap (both here) later.parted
          ∙ both_parted here (of_rows (number + 1) rows) later.later;
    }

-- each kernel of a run comes of the one before by a step
kernels_follow : (number : ℕ) (s : State) (rows : List Viewed) (now : State) → ViewedRun s rows now → Follow s.kernel (kernels_of number rows) now.kernel
kernels_follow number s [] now r = ap (λ (t : State). t.kernel) r
kernels_follow number s (row ∷ rows) now r =
    let goes = step_goes s row.asked.event row.answer row.seen r.0 r.1.step in
    let later = kernels_follow (number + 1) r.0 rows now r.2 in
    (subst (λ (k : KernelState). Goes s.kernel k) (sym r.1.after) goes, subst (λ (k : KernelState). Follow k (kernels_of (number + 1) rows) now.kernel) (sym r.1.after) later)

-- the lanes behind them have these bars
told : (rows later whole : List Change) (count : ℕ) → whole ≡ rows ++ later → count ≡ length (grown_by [] whole) → HaveBars (behind_all (replicate count None) rows) (λ number. bar_behind number None rows)
told rows later whole count e wide =
    subst (λ (n : ℕ). HaveBars (behind_all (replicate n None) rows) (λ number. bar_behind number None rows))
    (sym (wide ∙ ap (λ (cs : List Change). length (grown_by [] cs)) e))
    (all_told rows later)

pub nobody_loses_a_bar : NobodyLosesABar
nobody_loses_a_bar part start ends now all rows left r q e size past =
    let first = begins 1 start ends now all rows left r q e in
    let nothing : Lasts = nothing_lasts 0 0 0 0 0 start.kernel.negative in
    let grown : added_behind 1 nothing all ≡ grown_to nothing (of_rows 1 all) = all_grow 1 nothing all in
    let lasts = all_change part 0 (first_lasts part) rows (subst (λ (n : ℕ). is_past part n ≡ false) (omega arith) past) in
    subst (λ (l : Lasts). BarsAreSeen l start rows now) (sym lasts)
    (record {
      tokens = told (changes_of_tokens 1 rows) first.later.tokens (changes_of_tokens 1 all) part.size.tokens (ap (λ (t : Turn). t.tokens) first.parted) (ap (λ (s : Size). s.tokens) size ∙ ap (λ (l : Lasts). length l.tokens) grown);
      walkers = told (changes_of_walkers 1 rows) first.later.walkers (changes_of_walkers 1 all) part.size.walkers (ap (λ (t : Turn). t.walkers) first.parted) (ap (λ (s : Size). s.walkers) size ∙ ap (λ (l : Lasts). length l.walkers) grown);
      systems = told (changes_of_systems 1 rows) first.later.systems (changes_of_systems 1 all) part.size.systems (ap (λ (t : Turn). t.systems) first.parted) (ap (λ (s : Size). s.systems) size ∙ ap (λ (l : Lasts). length l.systems) grown);
      daemon = told (changes_of_daemon 1 rows) first.later.daemon (changes_of_daemon 1 all) part.size.daemon (ap (λ (t : Turn). t.daemon) first.parted) (ap (λ (s : Size). s.daemon) size ∙ ap (λ (l : Lasts). length l.daemon) grown);
      failures = λ none. failures_are_seen start.kernel now.kernel (kernels_of 1 rows) first.later.failures (kernels_of 1 all) part.size.failures part.size.negative (ap (λ (t : Turn). t.failures) first.parted) (ap (λ (s : Size). s.failures) size ∙ ap (λ (l : Lasts). length l.failures) grown) (ap (λ (s : Size). s.negative) size) none (kernels_follow 1 start rows now q);
    })
