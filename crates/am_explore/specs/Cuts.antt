-- A search in parts: own choice (docs/DECISIONS.md, "All orders of a scene").
use Rattle.std.specs.Prelude.{◌≡◌, ◌+◌, ◌↔◌, ℕ, List, ◌++◌, length}
use Rattle.am_machine.specs.{Answer}
use Rattle.am_explore.specs.declared.choice.Choice.{Choice}
use Rattle.am_explore.specs.declared.scene.Scene.{Scene}
use Rattle.am_explore.specs.declared.question.Question.{Question}
use Rattle.am_explore.specs.Findings.{NoneBelow, NoneMeets}
use Rattle.am_explore.specs.Leads.{AreTaken}
use Rattle.am_explore.specs.Orders.{IsEnd, IsOrder, IsStep, Stand}
use Rattle.am_explore.specs.Questions.{Meets}

-- An order is an order of its first choices, and one from where these lead. So the orders from all
-- stands that as many choices lead to are all orders that are as long or longer.
abbrev pub AreCut : Type 0
AreCut =
    (scene : Scene) (start : Stand) (first later : List Choice) (told next : List Answer) (end : Stand)
    → length first ≡ length told →
    IsOrder scene start (first ++ later) (told ++ next) end
    ↔ ((mid : Stand) × IsOrder scene start first told mid × IsOrder scene mid later next end)

-- Where behind no first step an order meets the question, and this is no end that does, no order from
-- here does.
abbrev pub PartsTellNever : Type 0
PartsTellNever =
    (scene : Scene) (question : Question) (start : Stand) → (IsEnd scene start → Meets scene question start → ⊥) →
    ((choice : Choice) (answer : Answer) (mid : Stand) → IsStep scene start choice answer mid
    → NoneMeets scene question mid) → NoneMeets scene question start

-- Where behind no first step an order with fewer steps than these meets the question, and this is no end that does,
-- none from here does with fewer than one more.
abbrev pub PartsTellFirst : Type 0
PartsTellFirst =
    (scene : Scene) (question : Question) (start : Stand) (below : ℕ)
    → (IsEnd scene start → Meets scene question start → ⊥) →
    ((choice : Choice) (answer : Answer) (mid : Stand) → IsStep scene start choice answer mid
    → NoneBelow scene question mid below) →
    NoneBelow scene question start (below + 1)

-- each order is one of numbers of choices, and what is one of numbers is an order
abbrev pub HaveNumbers : Type 0
HaveNumbers =
    (scene : Scene) (start : Stand) (choices : List Choice) (answers : List Answer) (end : Stand) →
    IsOrder scene start choices answers end ↔ ((numbers : List ℕ) × AreTaken scene start numbers choices answers end)
