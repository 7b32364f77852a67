-- The bars of a picture are those of the world.
use Rattle.std.proofs.Common.{◌≡◌, ◌∙◌, ℕ, ◌+◌, Bool, true, false, List, [], ◌∷◌, ◌++◌, Option, Some, None, refl, sym, ap}
use Rattle.std.proofs.Common.{inl, inr}
use Rattle.std.specs.Prelude.{◌==◌, if◌then◌else◌}
use Rattle.std.specs.Option.{option_map}
use Rattle.std.specs.List.{flat_map}
use Rattle.std.proofs.lemmas.List.{append-nil}
use Rattle.am_names.specs.{OpenToken}
use Rattle.am_wire.specs.{Packet, token_kind}
use Rattle.am_wire.specs.declared.packet_type.PacketType.{PacketType}
use Rattle.am_wire.specs.declared.packet_type.PacketType.TheVariants.{MissingIndirect, ExpireIndirect, MissingDirect, ExpireDirect}
use Rattle.am_state.specs.{Obs}
use Rattle.am_state.specs.declared.obs.Obs.TheVariants as seen
use Rattle.am_wait.specs.{token_of}
use Rattle.am_laws.specs.{is_open, packet_of}
use Rattle.am_machine.specs.{Answer, Event, Run, Setup, Step, initial_state_of}
use Rattle.am_machine.specs.Invariant.Traces as traces
use Rattle.am_machine.specs.State.{State}
use Rattle.am_machine.specs.declared.event.Event.TheVariants as events
use Rattle.am_machine.proofs.Consistent.{runs_lawful}
use Rattle.am_machine.proofs.Runs.{run_more}
use Rattle.am_machine.proofs.Told.Runs.{runs_fit}
use Rattle.am_lanes.specs.{Change, HaveBars, Look, bar_behind}
use Rattle.am_lanes.specs.Changes.{shown, then_bar}
use Rattle.am_lanes.specs.declared.holder.Holder.{Holder}
use Rattle.am_draw.specs.{Viewed, ViewedRun}
use Rattle.am_draw.specs.Changes.{actor_changes, changes_of_tokens, changes_of_walkers, token_changes, walker_changes}
use Rattle.am_draw.specs.Lasting.{token_look}
use Rattle.am_draw.specs.Standings.{Standing, stands, stands_behind}
use Rattle.am_draw.specs.Standings.Standing.{IsInside, Rests, Waits}
use Rattle.am_draw.specs.Worlds.{BarsTellTheWorld, bar_seen, kind_look, standing_bar, then_bar_of, token_bar, walker_bar}
use Rattle.am_draw.proofs.ChangeLemmas as lanes
use Rattle.am_draw.proofs.StandingEvents.{AreApartIn, initial_apart, step_shows}
use Rattle.am_draw.proofs.TokenBars.{bar_is_told, once_of, packet_look}

-- ---- changes one after another

bars_both : (number : ℕ) (bar : Option Look) (xs ys : List Change) → bar_behind number bar (xs ++ ys) ≡ bar_behind number (bar_behind number bar xs) ys
bars_both number bar [] ys = refl
bars_both number bar (x ∷ xs) ys = bars_both number (then_bar number bar x) xs ys

-- ---- walkers

-- who acts has no other bar by that
acts_alone : (number walker : ℕ) (bar : Option Look) (event : Event) → bar_behind walker bar (actor_changes number event) ≡ bar
acts_alone number walker bar (events.Walk who ns path now pipe) = refl
acts_alone number walker bar (events.Resume who now pipe) = refl
acts_alone number walker bar (events.Leave who) = refl
acts_alone number walker bar (events.Expire who fs now immediate pipe) = refl
acts_alone number walker bar _ = refl

bar_by_cases : (b : Bool) (new old : Standing) → (if b then standing_bar new else standing_bar old) ≡ standing_bar (if b then new else old)
bar_by_cases true new old = refl
bar_by_cases false new old = refl

walker_seen : (number walker : ℕ) (old : Standing) (shown : List Obs)
    → bar_behind walker (standing_bar old) (flat_map (walker_changes number) shown) ≡ standing_bar (stands_behind walker old shown)
walker_seen number walker old [] = refl
walker_seen number walker old (seen.Waits other token ∷ shown) =
    ap (λ (bar : Option Look). bar_behind walker bar (flat_map (walker_changes number) shown)) (bar_by_cases (other == walker) Waits old)
    ∙ walker_seen number walker (if other == walker then Waits else old) shown
walker_seen number walker old (seen.Released other token status ∷ shown) =
    ap (λ (bar : Option Look). bar_behind walker bar (flat_map (walker_changes number) shown)) (bar_by_cases (other == walker) Rests old)
    ∙ walker_seen number walker (if other == walker then Rests else old) shown
walker_seen number walker old (seen.Entered other mount ∷ shown) =
    ap (λ (bar : Option Look). bar_behind walker bar (flat_map (walker_changes number) shown)) (bar_by_cases (other == walker) IsInside old)
    ∙ walker_seen number walker (if other == walker then IsInside else old) shown
walker_seen number walker old (seen.Left other mount ∷ shown) =
    ap (λ (bar : Option Look). bar_behind walker bar (flat_map (walker_changes number) shown)) (bar_by_cases (other == walker) Rests old)
    ∙ walker_seen number walker (if other == walker then Rests else old) shown
walker_seen number walker old (_ ∷ shown) = walker_seen number walker old shown

-- ---- tokens

shown_is : (kind : PacketType) (dev : ℕ) → shown (token_look kind dev) ≡ Some (token_look kind dev)
shown_is MissingIndirect dev = refl
shown_is ExpireIndirect dev = refl
shown_is MissingDirect dev = refl
shown_is ExpireDirect dev = refl

token_seen : (number token : ℕ) (bar : Option Look) (all : List Obs) → bar_behind token bar (flat_map (token_changes number) all) ≡ bar_seen token bar all
token_seen number token bar [] = refl
token_seen number token bar (seen.Queued other attach packet ∷ all) =
    ap (λ (o : Option Look). bar_behind token (if other == token then o else bar) (flat_map (token_changes number) all)) (shown_is packet.kind packet.dev)
    ∙ token_seen number token (then_bar_of token bar (seen.Queued other attach packet)) all
token_seen number token bar (seen.Answered other status ∷ all) = token_seen number token (then_bar_of token bar (seen.Answered other status)) all
token_seen number token bar (seen.Catatonic fs ∷ all) = token_seen number token (then_bar_of token bar (seen.Catatonic fs)) all
token_seen number token bar (_ ∷ all) = token_seen number token bar all

seen_both : (token : ℕ) (bar : Option Look) (xs ys : List Obs) → bar_seen token bar (xs ++ ys) ≡ bar_seen token (bar_seen token bar xs) ys
seen_both token bar [] ys = refl
seen_both token bar (x ∷ xs) ys = seen_both token (then_bar_of token bar x) xs ys

-- what a packet asks for looks so
look_asked : (kind : PacketType) (dev : ℕ) → token_look kind dev ≡ kind_look (token_kind kind) dev
look_asked MissingIndirect dev = refl
look_asked ExpireIndirect dev = refl
look_asked MissingDirect dev = refl
look_asked ExpireDirect dev = refl

abbrev asked_look : traces.Asked → Look
asked_look asked = kind_look asked.kind asked.trigger.fs

packet_asked : (o : Option Packet) → option_map packet_look o ≡ option_map asked_look (option_map traces.asked_in o)
packet_asked None = refl
packet_asked (Some packet) = ap (λ (look : Look). Some look) (look_asked packet.kind packet.dev)

row_asked : (o : Option OpenToken) → option_map asked_look (option_map traces.asked_by o) ≡ option_map (λ row. kind_look row.kind row.trigger.fs) o
row_asked None = refl
row_asked (Some row) = refl

told_by_cases : (b : Bool) (o : Option Packet)
    → (if b then option_map packet_look o else None) ≡ option_map asked_look (if b then option_map traces.asked_in o else None)
told_by_cases true o = packet_asked o
told_by_cases false o = refl

-- in a world that came by a run, a token was seen as it is
token_is : (opening : Setup) (done : List Event) (answers : List Answer) (s : State) (token : ℕ)
    → Run (initial_state_of opening) done answers s → bar_seen token None s.trace ≡ token_bar s token
token_is opening done answers s token run =
    bar_is_told token s.trace (once_of token s.trace (runs_lawful opening done answers s run))
    ∙ told_by_cases (is_open token s.trace) (packet_of token s.trace)
    ∙ ap (option_map asked_look) ((runs_fit opening done answers s run).rows.opens token)
    ∙ row_asked (token_of s.kernel.waits.tokens token)

-- ---- along a run

trace_more : (old : State) (event : Event) (answer : Answer) (all : List Obs) (new : State) → Step old event answer all new → new.trace ≡ old.trace ++ all
trace_more old event answer all new (inl out) = ap (λ (s : State). s.trace) out.same ∙ sym (append-nil old.trace) ∙ ap (λ (more : List Obs). old.trace ++ more) (sym out.nothing)
trace_more old event answer all new (inr comes) = ap (λ (s : State). s.trace) comes.left ∙ ap (λ (more : List Obs). old.trace ++ more) (sym comes.shown)

-- what these rows show of each walker and each token, and that there is a run to what they lead to
record AreShown (opening : Setup) (old : State) (number : ℕ) (rows : List Viewed) (now : State) : Type 0 where
  apart : AreApartIn now
  walkers : (walker : ℕ) → bar_behind walker (walker_bar old walker) (changes_of_walkers number rows) ≡ walker_bar now walker
  tokens : (token : ℕ) → bar_behind token (bar_seen token None old.trace) (changes_of_tokens number rows) ≡ bar_seen token None now.trace
  done : List Event
  answers : List Answer
  run : Run (initial_state_of opening) done answers now

are_shown : (opening : Setup) (done : List Event) (answers : List Answer) (old : State) (number : ℕ) (rows : List Viewed) (now : State)
    → Run (initial_state_of opening) done answers old → AreApartIn old → ViewedRun old rows now → AreShown opening old number rows now
are_shown opening done answers old number [] now run apart same =
    rw same (record { apart = apart; walkers = λ walker. refl; tokens = λ token. refl; done = done; answers = answers; run = run })
are_shown opening done answers old number (row ∷ rows) now run apart views =
    let mid = views.0 in
    let step : Step old row.asked.event row.answer row.seen mid = views.1.step in
    let here = step_shows old row.asked.event row.answer row.seen mid step (runs_fit opening done answers old run).rows apart in
    let more = run_more (initial_state_of opening) done answers old row.asked.event row.answer mid run (row.seen, step) in
    let later = are_shown opening (done ++ row.asked.event ∷ []) (answers ++ row.answer ∷ []) mid (number + 1) rows now more here.apart views.2 in
    record {
      apart = later.apart;
      walkers = λ walker.
          bars_both walker (walker_bar old walker) (actor_changes number row.asked.event ++ flat_map (walker_changes number) row.seen) (changes_of_walkers (number + 1) rows)
          ∙ ap (λ (bar : Option Look). bar_behind walker bar (changes_of_walkers (number + 1) rows))
          (bars_both walker (walker_bar old walker) (actor_changes number row.asked.event) (flat_map (walker_changes number) row.seen)
          ∙ ap (λ (bar : Option Look). bar_behind walker bar (flat_map (walker_changes number) row.seen)) (acts_alone number walker (walker_bar old walker) row.asked.event)
          ∙ walker_seen number walker (stands walker old.kernel.waits.waits old.kernel.uses) row.seen
          ∙ ap standing_bar (here.tells walker))
          ∙ later.walkers walker;
      tokens = λ token.
          bars_both token (bar_seen token None old.trace) (flat_map (token_changes number) row.seen) (changes_of_tokens (number + 1) rows)
          ∙ ap (λ (bar : Option Look). bar_behind token bar (changes_of_tokens (number + 1) rows))
          (token_seen number token (bar_seen token None old.trace) row.seen
          ∙ sym (seen_both token None old.trace row.seen)
          ∙ ap (bar_seen token None) (sym (trace_more old row.asked.event row.answer row.seen mid step)))
          ∙ later.tokens token;
      done = later.done;
      answers = later.answers;
      run = later.run;
    }

-- who has a bar is said in another way
have_so : (all : List (Option Holder)) (bar other : ℕ → Option Look) → ((number : ℕ) → bar number ≡ other number) → HaveBars all bar → HaveBars all other
have_so all bar other same h = record {
  there = λ number look is. h.there number look (same number ∙ is);
  no_other = λ number look has. sym (same number) ∙ h.no_other number look has;
  once = h.once;
}

pub bars_tell_the_world : BarsTellTheWorld
bars_tell_the_world part opening ends now all rows left whole run first size past =
    let seen_bars = lanes.nobody_loses_a_bar part (initial_state_of opening) ends now all rows left whole run first size past in
    let told = are_shown opening [] [] (initial_state_of opening) 1 rows now refl (initial_apart opening) run in
    record {
      tokens = have_so _ _ (token_bar now) (λ token. told.tokens token ∙ token_is opening told.done told.answers now token told.run) seen_bars.tokens;
      walkers = have_so _ _ (walker_bar now) told.walkers seen_bars.walkers;
      failures = seen_bars.failures refl;
      apart = told.apart;
    }
