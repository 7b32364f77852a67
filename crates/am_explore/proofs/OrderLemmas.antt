-- Orders: they go on step by step, and don't rest on what was observed.
use Rattle.std.proofs.Common.{◌≡◌, true, false, List, [], ◌∷◌, ◌++◌, length, refl, sym, ap, subst, ◌∙◌, inl, inr, arith}
use Rattle.std.specs.Prelude.{ℕ, ◌+◌, ◌≤◌, slice_get}
use Rattle.std.specs.Option.{IsSomeAnd}
use Rattle.std.proofs.lemmas.Bool.{false≢true}
use Rattle.am_state.specs.{Obs}
use Rattle.am_machine.specs.{Answer, Comes, Event, Run, Step, after, outcome_of}
use Rattle.am_machine.specs.State.{State}
use Rattle.am_machine.specs.EventOutcome.{EventOutcome}
use Rattle.am_world.specs.{HaveEqualHalves, IsAlike}
use Rattle.am_world.proofs.BehindLemmas.{outcome_traced, traced}
use Rattle.am_explore.specs.declared.choice.Choice.{Choice}
use Rattle.am_explore.specs.declared.question.Question.{Question}
use Rattle.am_explore.specs.declared.question.Question.TheVariants.{Answered, Waiting, Shows, Lacks}
use Rattle.am_explore.specs.declared.scene.Scene.{Scene}
use Rattle.am_explore.specs.Answers.{is_no_memory, is_step}
use Rattle.am_explore.specs.Choices.{choices_of}
use Rattle.am_explore.specs.Findings.{MeetsIn, NoneMeets}
use Rattle.am_explore.specs.Levels.{IsLike}
use Rattle.am_explore.specs.Orders.{IsEnd, IsIn, IsMade, IsOrder, IsStep, Stand, choices_at, events_in}
use Rattle.am_explore.specs.Questions.{HasAnswer, HasLeft, Meets}
use Rattle.am_explore.specs.Standings.{Standing, moved}
use Rattle.am_explore.proofs.WorldLemmas.{like_text}

-- an event comes to the same, whatever was observed
no_trace : (s t : State) (event : Event) → HaveEqualHalves s t → IsAlike (outcome_of s event) (outcome_of t event)
no_trace s t event same_halves =
    let same : traced t.trace s
    ≡ t = λ i. record { kernel = same_halves.kernel i; daemon = same_halves.daemon i; trace = t.trace } in
    let is = outcome_traced t.trace s event in
    subst (λ (x : State). IsAlike (outcome_of s event) (outcome_of x event)) same (record {
      answer = sym (ap (λ (o : EventOutcome). o.answer) is);
      seen = sym (ap (λ (o : EventOutcome). o.seen) is);
      halves = record {
        kernel = sym (ap (λ (o : EventOutcome). o.state.kernel) is);
        daemon = sym (ap (λ (o : EventOutcome). o.state.daemon) is);
      };
    })

pub like_back : (a b : Stand) → IsLike a b → IsLike b a
like_back a b like = record {
  halves = record { kernel = sym like.halves.kernel; daemon = sym like.halves.daemon };
  threads = sym like.threads;
}

pub like_same : (a b : Stand) → a ≡ b → IsLike a b
like_same a b is = record {
  halves = record { kernel = ap (λ (z : Stand). z.state.kernel) is; daemon = ap (λ (z : Stand). z.state.daemon) is };
  threads = ap (λ (z : Stand). z.threads) is;
}

-- ---- what comes of a choice

-- memory hasn't run out, so that the event has come
pub comes_of : (old : State) (event : Event) (answer : Answer) (seen : List Obs) (new : State)
    → is_no_memory answer ≡ false → Step old event answer seen new → Comes (outcome_of old event) old answer seen new
comes_of old event answer seen new lasts step = elim step [
  | inl ran ↦ absurd (false≢true (sym lasts ∙ ap is_no_memory ran.told))
  | inr comes ↦ comes
]

-- the answer makes it no step
pub no_step : (scene : Scene) (a : Stand) (choice : Choice) (answer : Answer) (seen : List Obs) (new : State)
    → Comes (outcome_of a.state choice.event) a.state answer seen new → is_step choice.who answer ≡ false →
    (other : Answer) (b : Stand) → IsMade scene a choice other b → ⊥
no_step scene a choice answer seen new comes none other b made =
    let same : other ≡ answer = made.comes.told ∙ sym comes.told in
    false≢true (sym none ∙ sym (ap (is_step choice.who) same) ∙ made.counts)

-- it comes to one thing
pub same_made : (scene : Scene) (a : Stand) (choice : Choice) (answer other : Answer) (b c : Stand)
    → IsMade scene a choice answer b → IsMade scene a choice other c → b ≡ c
same_made scene a choice answer other b c made again =
    let state : b.state ≡ c.state = made.comes.left ∙ sym again.comes.left in
    let same : answer ≡ other = made.comes.told ∙ sym again.comes.told in
    let threads : b.threads ≡ c.threads =
    made.goes_on ∙ ap (λ (z : Answer). moved 0 choice.who z scene.threads.items a.threads) same ∙ sym again.goes_on in
    λ i. record { state = state i; threads = threads i }

-- ---- steps from stands that are alike

like_choices : (scene : Scene) (a b : Stand) → IsLike a b → choices_at scene a ≡ choices_at scene b
like_choices scene a b like = λ i. choices_of scene (like.halves.kernel i) (like.halves.daemon i) (like.threads i)

like_made : (scene : Scene) (a c : Stand) (choice : Choice) (answer : Answer) (b : Stand) → IsLike a c
    → IsMade scene a choice answer b → (d : Stand) × IsMade scene c choice answer d × IsLike b d
like_made scene a c choice answer b like made =
    let o : EventOutcome = outcome_of c.state choice.event in
    let alike : IsAlike (outcome_of a.state choice.event) o = no_trace a.state c.state choice.event like.halves in
    let threads : List Standing = moved 0 choice.who answer scene.threads.items c.threads in (
      record { state = after c.state o; threads = threads },
      record {
        seen = o.seen;
        comes = record { told = made.comes.told ∙ alike.answer; shown = refl; left = refl };
        counts = made.counts;
        goes_on = refl;
      },
      record {
        halves = record {
          kernel = ap (λ (s : State). s.kernel) made.comes.left ∙ alike.halves.kernel;
          daemon = ap (λ (s : State). s.daemon) made.comes.left ∙ alike.halves.daemon;
        };
        threads = made.goes_on
            ∙ ap (λ (z : List Standing). moved 0 choice.who answer scene.threads.items z) like.threads;
      },
    )

like_step : (scene : Scene) (a c : Stand) (choice : Choice) (answer : Answer) (b : Stand) → IsLike a c
    → IsStep scene a choice answer b → (d : Stand) × IsStep scene c choice answer d × IsLike b d
like_step scene a c choice answer b like step =
    let came = like_made scene a c choice answer b like step.made in (
      came.0,
      record {
        chosen = subst (λ (z : List Choice). IsIn choice z) (like_choices scene a c like) step.chosen;
        made =
            came.1;
      },
      came.2,
    )

like_order : (scene : Scene) (a c : Stand) (choices : List Choice) (answers : List Answer) (b : Stand) → IsLike a c
    → IsOrder scene a choices answers b → (d : Stand) × IsOrder scene c choices answers d × IsLike b d
like_order scene a c [] [] b like leads = (c, refl, subst (λ (z : Stand). IsLike z c) (sym leads) like)
like_order scene a c (choice ∷ choices) (answer ∷ answers) b like leads =
    let one = like_step scene a c choice answer leads.0 like leads.1 in
    let rest = like_order scene leads.0 one.0 choices answers b one.2 leads.2 in
    (rest.0, (one.0, one.1, rest.1), rest.2)
like_order scene a c [] (answer ∷ answers) b like leads = elim leads [ ]
like_order scene a c (choice ∷ choices) [] b like leads = elim leads [ ]

like_end : (scene : Scene) (a c : Stand) → IsLike a c → IsEnd scene a → IsEnd scene c
like_end scene a c like ends choice answer b step =
    let back = like_step scene c a choice answer b (like_back a c like) step in
    ends choice answer back.0 back.1

like_meets : (scene : Scene) (question : Question) (a c : Stand) → IsLike a c → Meets scene question a
    → Meets scene question c
like_meets scene (Answered thread event sought) a c like meets =
    subst (λ (z : List Standing). IsSomeAnd (slice_get z thread) (λ (s : Standing). HasAnswer event sought s.heard))
    like.threads meets
like_meets scene (Waiting thread) a c like meets =
    subst (λ (z : List Standing). IsSomeAnd (slice_get z thread)
    (λ (s : Standing). IsSomeAnd (slice_get scene.threads.items thread)
    (λ (events : List Event). HasLeft events s))) like.threads meets
like_meets scene (Shows line) a c like meets = like_text line.items a.state c.state true like.halves meets
like_meets scene (Lacks line) a c like meets = like_text line.items a.state c.state false like.halves meets

-- an order that meets the question is one from each stand that is alike
pub like_meets_in : (scene : Scene) (question : Question) (a c : Stand) (steps : ℕ) → IsLike a c
    → MeetsIn scene question a steps → MeetsIn scene question c steps
like_meets_in scene question a c steps like m =
    let came = like_order scene a c m.choices m.answers m.end like m.leads in
    record {
      choices = m.choices;
      answers = m.answers;
      end = came.0;
      leads = came.1;
      ends = like_end scene m.end came.0 came.2 m.ends;
      meets = like_meets scene question m.end came.0 came.2 m.meets;
      long = m.long;
    }

-- ---- orders go on

pub order_more : (scene : Scene) (a : Stand) (choices : List Choice) (answers : List Answer) (mid : Stand)
    (choice : Choice) (answer : Answer) (b : Stand) → IsOrder scene a choices answers mid
    → IsStep scene mid choice answer b →
    IsOrder scene a (choices ++ choice ∷ []) (answers ++ answer ∷ []) b
order_more scene a [] [] mid choice answer b leads step =
    (b, subst (λ (z : Stand). IsStep scene z choice answer b) leads step, refl)
order_more scene a (c ∷ choices) (x ∷ answers) mid choice answer b leads step =
    (leads.0, leads.1, order_more scene leads.0 choices answers mid choice answer b leads.2 step)
order_more scene a [] (x ∷ answers) mid choice answer b leads step = elim leads [ ]
order_more scene a (c ∷ choices) [] mid choice answer b leads step = elim leads [ ]

-- an order is a run of the machine
pub order_runs : (scene : Scene) (a : Stand) (choices : List Choice) (answers : List Answer) (b : Stand)
    → IsOrder scene a choices answers b → Run a.state (events_in choices) answers b.state
order_runs scene a [] [] b leads = ap (λ (z : Stand). z.state) leads
order_runs scene a (choice ∷ choices) (answer ∷ answers) b leads =
    (leads.0.state, leads.1.made.seen, inr leads.1.made.comes, order_runs scene leads.0 choices answers b leads.2)
order_runs scene a [] (answer ∷ answers) b leads = elim leads [ ]
order_runs scene a (choice ∷ choices) [] b leads = elim leads [ ]

-- ---- an order in two parts

pub order_cut : (scene : Scene) (a : Stand) (first later : List Choice) (told next : List Answer) (end : Stand)
    → length first ≡ length told → IsOrder scene a (first ++ later) (told ++ next) end →
    (mid : Stand) × IsOrder scene a first told mid × IsOrder scene mid later next end
order_cut scene a [] later [] next end long leads = (a, refl, leads)
order_cut scene a (choice ∷ first) later (answer ∷ told) next end long leads =
    let rest = order_cut scene leads.0 first later told next end (omega arith) leads.2 in
    (rest.0, (leads.0, leads.1, rest.1), rest.2)
order_cut scene a [] later (answer ∷ told) next end long leads = absurd (omega arith)
order_cut scene a (choice ∷ first) later [] next end long leads = absurd (omega arith)

pub orders_joined : (scene : Scene) (a : Stand) (first later : List Choice) (told next : List Answer) (end mid : Stand)
    → IsOrder scene a first told mid → IsOrder scene mid later next end
    → IsOrder scene a (first ++ later) (told ++ next) end
orders_joined scene a [] later [] next end mid leads on = subst (λ (z : Stand). IsOrder scene z later next end) leads on
orders_joined scene a (choice ∷ first) later (answer ∷ told) next end mid leads on =
    (leads.0, leads.1, orders_joined scene leads.0 first later told next end mid leads.2 on)
orders_joined scene a [] later (answer ∷ told) next end mid leads on = elim leads [ ]
orders_joined scene a (choice ∷ first) later [] next end mid leads on = elim leads [ ]

-- no order meets the question, as none does behind a first step
pub never_by_parts : (scene : Scene) (question : Question) (start : Stand)
    → (IsEnd scene start → Meets scene question start → ⊥) →
    ((choice : Choice) (answer : Answer) (mid : Stand) → IsStep scene start choice answer mid
    → NoneMeets scene question mid) →
    (choices : List Choice) (answers : List Answer) (end : Stand) → IsOrder scene start choices answers end
    → IsEnd scene end → Meets scene question end → ⊥
never_by_parts scene question start here behind [] [] end leads ends meets =
    here (subst (λ (z : Stand). IsEnd scene z) leads ends) (subst (λ (z : Stand). Meets scene question z) leads meets)
never_by_parts scene question start here behind (choice ∷ choices) (answer ∷ answers) end leads ends meets =
    behind choice answer leads.0 leads.1 (length choices)
    (record {
      choices = choices;
      answers = answers;
      end = end;
      leads = leads.2;
      ends = ends;
      meets = meets;
      long =
          refl;
    })
never_by_parts scene question start here behind [] (answer ∷ answers) end leads ends meets = elim leads [ ]
never_by_parts scene question start here behind (choice ∷ choices) [] end leads ends meets = elim leads [ ]

-- a shortest order has one event more than one from where a first step leads
pub first_by_parts : (scene : Scene) (question : Question) (start : Stand) (steps : ℕ)
    → (IsEnd scene start → Meets scene question start → ⊥) →
    ((choice : Choice) (answer : Answer) (mid : Stand) → IsStep scene start choice answer mid → (left : ℕ)
    → MeetsIn scene question mid left → steps ≤ left) →
    (choices : List Choice) (answers : List Answer) (end : Stand) → IsOrder scene start choices answers end
    → IsEnd scene end → Meets scene question end → steps + 1 ≤ length choices
first_by_parts scene question start steps here behind [] [] end leads ends meets =
    absurd (here (subst (λ (z : Stand). IsEnd scene z) leads ends)
    (subst (λ (z : Stand). Meets scene question z) leads meets))
first_by_parts scene question start steps here behind (choice ∷ choices) (answer ∷ answers) end leads ends meets =
    let few : steps ≤ length choices =
    behind choice answer leads.0 leads.1 (length choices)
    (record {
      choices = choices;
      answers = answers;
      end = end;
      leads = leads.2;
      ends = ends;
      meets = meets;
      long =
          refl;
    }) in
    omega (arith, few)
first_by_parts scene question start steps here behind [] (answer ∷ answers) end leads ends meets = elim leads [ ]
first_by_parts scene question start steps here behind (choice ∷ choices) [] end leads ends meets = elim leads [ ]
