-- The states to which orders of one length lead: own choice (docs/DECISIONS.md, "All orders of a scene").
use Rattle.std.specs.Prelude.{◌≡◌, ◌⊎◌, ◌+◌, ◌≤◌, ℕ, suc, List, [], ◌∷◌, length}
use Rattle.am_machine.specs.{Answer}
use Rattle.am_world.specs.{HaveEqualHalves}
use Rattle.am_explore.specs.declared.choice.Choice.{Choice}
use Rattle.am_explore.specs.declared.level.Node.{Node}
use Rattle.am_explore.specs.declared.question.Question.{Question}
use Rattle.am_explore.specs.declared.scene.Scene.{Scene}
use Rattle.am_explore.specs.declared.search.Ahead.{Ahead}
use Rattle.am_explore.specs.declared.search.Found.{Found}
use Rattle.am_explore.specs.declared.search.Found.TheVariants as founds
use Rattle.am_explore.specs.declared.search.Looked.{Looked}
use Rattle.am_explore.specs.declared.search.Looked.TheVariants as looks
use Rattle.am_explore.specs.declared.search.Visited.{Visited}
use Rattle.am_explore.specs.declared.search.Visited.TheVariants as visits
use Rattle.am_explore.specs.Findings.{MeetsIn}
use Rattle.am_explore.specs.Orders.{IsEnd, IsMade, IsOrder, IsStep, Stand, stand_of}
use Rattle.am_explore.specs.Questions.{Meets}

-- the same halves, and all threads stand alike, whatever was observed
pub record IsLike (a b : Stand) : Type 0 where
  pub halves : HaveEqualHalves a.state b.state
  pub threads : a.threads ≡ b.threads

-- where a node stands
abbrev pub node_stand : Node → Stand
node_stand node = stand_of node.begun

-- it is so of all of these
abbrev pub AllOf : {A : Type 0} → (A → Type 0) → List A → Type 0
AllOf P [] = Unit {0}
AllOf P (x ∷ xs) = P x × AllOf P xs

-- one of the nodes stands like this
abbrev pub HasLike : List Node → Stand → Type 0
HasLike [] b = ⊥
HasLike (node ∷ nodes) b = IsLike (node_stand node) b ⊎ HasLike nodes b

-- the order that a node keeps leads to it, and has so many steps
pub record IsNodeAt (scene : Scene) (start : Stand) (depth : ℕ) (node : Node) : Type 0 where
  pub leads : IsOrder scene start node.choices.items node.answers.items (node_stand node)
  pub long : length node.choices.items ≡ depth

-- all of them
abbrev pub AreNodesAt : Scene → Stand → ℕ → List Node → Type 0
AreNodesAt scene start depth nodes = AllOf (IsNodeAt scene start depth) nodes

-- an order of so many steps leads from one of the nodes to an end that meets the question
abbrev pub OneMeetsIn : Scene → Question → List Node → ℕ → Type 0
OneMeetsIn scene question [] steps = ⊥
OneMeetsIn scene question (node ∷ nodes) steps = MeetsIn scene question (node_stand node) steps
    ⊎ OneMeetsIn scene question nodes steps

-- each order that meets the question goes on from one of these nodes after so many steps
abbrev pub GoThrough : Scene → Question → Stand → ℕ → List Node → Type 0
GoThrough scene question start depth nodes =
    (steps : ℕ) → MeetsIn scene question start steps
    → (left : ℕ) × (steps ≡ depth + left) × OneMeetsIn scene question nodes left

-- a level of a search that began here: orders lead to its nodes, and those that meet the question go
-- through them
pub record IsLevel (scene : Scene) (question : Question) (start : Stand) (nodes : List Node) : Type 0 where
  pub depth : ℕ
  pub nodes_at : AreNodesAt scene start depth nodes
  pub through : GoThrough scene question start depth nodes

-- where orders of one length lead to the nodes of a level, those of the next length lead to these
abbrev pub AreNodesAhead : Scene → List Node → List Node → Type 0
AreNodesAhead scene level nodes = (start : Stand) (depth : ℕ) → AreNodesAt scene start depth level
    → AreNodesAt scene start (suc depth) nodes

-- one level follows from the other
abbrev pub IsSameSearch : Scene → Question → List Node → List Node → Type 0
IsSameSearch scene question level nodes = (start : Stand) → IsLevel scene question start level
    → IsLevel scene question start nodes

-- the next level grows by what comes of a node
pub record Grows (scene : Scene) (node : Node) (old new : List Node) : Type 0 where
  pub likes : (b : Stand) → HasLike old b → HasLike new b
  pub orders : (start : Stand) (depth : ℕ) → IsNodeAt scene start depth node → AreNodesAt scene start (suc depth) old
      → AreNodesAt scene start (suc depth) new

-- no choice is made past the greatest number of states
abbrev pub IsUsedUp : Ahead → Type 0
IsUsedUp ahead = ahead.most ≤ ahead.tally.states

-- the choice is no step
abbrev pub IsNoStep : Scene → Stand → Choice → Type 0
IsNoStep scene a choice = (answer : Answer) (b : Stand) → IsMade scene a choice answer b → ⊥

-- the choice leads to a node
abbrev pub LeadsTo : Scene → Stand → List Node → Choice → Type 0
LeadsTo scene a nodes choice = (answer : Answer) (b : Stand) → IsMade scene a choice answer b → HasLike nodes b

-- what was seen of one choice
abbrev pub IsVisited : Scene → Stand → Choice → Ahead → Visited → Type 0
IsVisited scene a choice ahead visits.NoStep = IsNoStep scene a choice
IsVisited scene a choice ahead visits.Reached = LeadsTo scene a ahead.next.nodes.items choice × (IsEnd scene a → ⊥)
IsVisited scene a choice ahead visits.Full = IsUsedUp ahead

-- each step from here leads to a node
abbrev pub Follows : Scene → Stand → List Node → Type 0
Follows scene a nodes = (choice : Choice) (answer : Answer) (b : Stand) → IsStep scene a choice answer b
    → HasLike nodes b

-- what was seen of all choices
abbrev pub IsLooked : Scene → Stand → Ahead → Looked → Type 0
IsLooked scene a ahead looks.End = IsEnd scene a
IsLooked scene a ahead looks.GoesOn = Follows scene a ahead.next.nodes.items × (IsEnd scene a → ⊥)
IsLooked scene a ahead looks.Cut = IsUsedUp ahead

-- as many states were met as the next level has grown by, and no more than may be
pub record Counts (old new : Ahead) : Type 0 where
  pub most : new.most ≡ old.most
  pub states : new.tally.states + length old.next.nodes.items ≡ old.tally.states + length new.next.nodes.items
  pub bound : new.tally.states ≤ new.most

-- what is found is the order that leads to a node
abbrev pub IsOrderTo : Node → Found → Type 0
IsOrderTo node (founds.Order choices answers) = (choices.items ≡ node.choices.items)
    × (answers.items ≡ node.answers.items)
IsOrderTo node founds.Never = ⊥
IsOrderTo node (founds.Cut below) = ⊥

-- a node was passed: its steps lead on, and it is no end that meets the question
pub record IsPassed (scene : Scene) (question : Question) (nodes : List Node) (node : Node) : Type 0 where
  pub follows : Follows scene (node_stand node) nodes
  pub unmet : IsEnd scene (node_stand node) → Meets scene question (node_stand node) → ⊥
