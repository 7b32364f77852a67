-- Levels: what comes of their nodes is the next level.
use Rattle.std.proofs.Common.{◌≡◌, ◌<◌, ◌+◌, ℕ, zero, suc, List, [], ◌∷◌, ◌++◌, length, get_or, take, refl, sym}
use Rattle.std.proofs.Common.{ap, subst, ◌∙◌, inl, inr, arith}
use Rattle.std.proofs.lemmas.List.{length_push}
use Rattle.am_machine.specs.{Answer}
use Rattle.am_explore.specs.declared.choice.Choice.{Choice}
use Rattle.am_explore.specs.declared.level.Node.{Node}
use Rattle.am_explore.specs.declared.question.Question.{Question}
use Rattle.am_explore.specs.declared.scene.Scene.{Scene}
use Rattle.am_explore.specs.declared.search.Found.{Found}
use Rattle.am_explore.specs.declared.search.Found.TheVariants as founds
use Rattle.am_explore.specs.declared.search.Ahead.{Ahead}
use Rattle.am_explore.specs.Findings.{IsFound, MeetsFirst, MeetsIn, NoneBelow, NoneMeets}
use Rattle.am_explore.specs.Levels.{AllOf, AreNodesAhead, Counts, Grows, HasLike, IsLevel, IsLike, IsNodeAt, IsOrderTo}
use Rattle.am_explore.specs.Levels.{IsPassed, OneMeetsIn, node_stand}
use Rattle.am_explore.specs.Orders.{IsEnd, IsOrder, IsStep, Stand}
use Rattle.am_explore.specs.Questions.{Meets}
use Rattle.am_explore.proofs.ListLemmas.{AllOf_at, AllOf_more, AllOf_push, AllOf_weaker}
use Rattle.am_explore.proofs.OrderLemmas.{like_back, like_meets_in, order_more, order_runs}

-- ---- one of the nodes is alike

like_before : (nodes : List Node) (node : Node) (b : Stand) → HasLike nodes b → HasLike (nodes ++ node ∷ []) b
like_before [] node b has = elim has [ ]
like_before (n ∷ nodes) node b (inl like) = inl like
like_before (n ∷ nodes) node b (inr has) = inr (like_before nodes node b has)

pub like_pushed : (nodes : List Node) (node : Node) (b : Stand) → IsLike (node_stand node) b
    → HasLike (nodes ++ node ∷ []) b
like_pushed [] node b like = inl like
like_pushed (n ∷ nodes) node b like = inr (like_pushed nodes node b like)

pub like_at : (nodes : List Node) (i : ℕ) (node : Node) (b : Stand) → i < length nodes → node ≡ get_or nodes i node
    → IsLike (node_stand node) b → HasLike nodes b
like_at [] i node b h is like = absurd (omega arith)
like_at (n ∷ nodes) zero node b h is like = inl (subst (λ (z : Node). IsLike (node_stand z) b) is like)
like_at (n ∷ nodes) (suc i) node b h is like = inr (like_at nodes i node b (omega arith) is like)

-- ---- the next level grows

pub grows_not : (scene : Scene) (node : Node) (old new : List Node) → new ≡ old → Grows scene node old new
grows_not scene node old new is = record {
  likes = λ b has. subst (λ (z : List Node). HasLike z b) (sym is) has;
  orders = λ start depth at all. subst (λ (z : List Node). AllOf (IsNodeAt scene start (suc depth)) z) (sym is) all;
}

pub grows_then : (scene : Scene) (node : Node) (old mid new : List Node) → Grows scene node old mid
    → Grows scene node mid new → Grows scene node old new
grows_then scene node old mid new first later = record {
  likes = λ b has. later.likes b (first.likes b has);
  orders = λ start depth at all. later.orders start depth at (first.orders start depth at all);
}

pub grows_by : (scene : Scene) (node : Node) (old new : List Node) (child : Node) (choice : Choice) (answer : Answer) →
    IsStep scene (node_stand node) choice answer (node_stand child)
    → child.choices.items ≡ node.choices.items ++ choice ∷ []
    → child.answers.items ≡ node.answers.items ++ answer ∷ [] →
    new ≡ old ++ child ∷ [] → Grows scene node old new
grows_by scene node old new child choice answer step choices answers is = record {
  likes = λ b has. subst (λ (z : List Node). HasLike z b) (sym is) (like_before old child b has);
  orders = λ start depth at all.
      subst (λ (z : List Node). AllOf (IsNodeAt scene start (suc depth)) z) (sym is)
      (AllOf_push (IsNodeAt scene start (suc depth)) old child all (record {
        leads =
            subst (λ (z : List Choice). IsOrder scene start z child.answers.items (node_stand child)) (sym choices)
            (subst (λ (z : List Answer). IsOrder scene start (node.choices.items ++ choice ∷ []) z (node_stand child))
            (sym answers)
            (order_more scene start node.choices.items node.answers.items (node_stand node) choice answer
            (node_stand child) at.leads step));
        long = ap length choices ∙ (omega (arith, length_push node.choices.items choice, at.long));
      }));
}

-- ---- orders that meet the question go through the next level

one_ahead : (scene : Scene) (question : Question) (nodes : List Node) (b : Stand) (left : ℕ) → HasLike nodes b
    → MeetsIn scene question b left → OneMeetsIn scene question nodes left
one_ahead scene question [] b left has m = elim has [ ]
one_ahead scene question (node ∷ nodes) b left (inl like) m = inl
    (like_meets_in scene question b (node_stand node) left (like_back (node_stand node) b like) m)
one_ahead scene question (node ∷ nodes) b left (inr has) m = inr (one_ahead scene question nodes b left has m)

pass_by : (scene : Scene) (question : Question) (next : List Node) (node : Node) → IsPassed scene question next node →
    (choices : List Choice) (answers : List Answer) (end : Stand) (left : ℕ)
    → IsOrder scene (node_stand node) choices answers end → IsEnd scene end → Meets scene question end
    → length choices ≡ left →
    (k : ℕ) × (left ≡ suc k) × OneMeetsIn scene question next k
pass_by scene question next node passed [] [] end left leads ends meets long =
    absurd (passed.unmet (subst (λ (z : Stand). IsEnd scene z) leads ends)
    (subst (λ (z : Stand). Meets scene question z) leads meets))
pass_by scene question next node passed (choice ∷ choices) (answer ∷ answers) end left leads ends meets long = (
  length choices,
  sym long,
  one_ahead scene question next leads.0 (length choices) (passed.follows choice answer leads.0 leads.1)
      (record {
        choices = choices;
        answers = answers;
        end = end;
        leads = leads.2;
        ends = ends;
        meets = meets;
        long =
            refl;
      }),
)
pass_by scene question next node passed [] (answer ∷ answers) end left leads ends meets long = elim leads [ ]
pass_by scene question next node passed (choice ∷ choices) [] end left leads ends meets long = elim leads [ ]

pass_all : (scene : Scene) (question : Question) (next level : List Node) (left : ℕ)
    → AllOf (IsPassed scene question next) level → OneMeetsIn scene question level left →
    (k : ℕ) × (left ≡ suc k) × OneMeetsIn scene question next k
pass_all scene question next [] left passed one = elim one [ ]
pass_all scene question next (node ∷ level) left passed (inl m) = pass_by scene question next node passed.0 m.choices
    m.answers m.end left m.leads m.ends m.meets m.long
pass_all scene question next (node ∷ level) left passed (inr one) = pass_all scene question next level left passed.1 one

-- one node more was passed
pub pass_more : (scene : Scene) (question : Question) (level old next : List Node) (i : ℕ) (node : Node)
    → i < length level → node ≡ get_or level i node → Grows scene node old next → IsPassed scene question next node →
    AllOf (IsPassed scene question old) (take i level) → AllOf (IsPassed scene question next) (take (i + 1) level)
pass_more scene question level old next i node h is grows passed all =
    AllOf_more (IsPassed scene question next) level i node h is
    (AllOf_weaker (IsPassed scene question old) (IsPassed scene question next) (take i level)
    (λ n before. record
    { follows = λ choice answer b step. grows.likes b (before.follows choice answer b step); unmet = before.unmet })
    all) passed

pub ahead_more : (scene : Scene) (level old next : List Node) (i : ℕ) (node : Node) → i < length level
    → node ≡ get_or level i node → Grows scene node old next → AreNodesAhead scene level old
    → AreNodesAhead scene level next
ahead_more scene level old next i node h is grows ahead start depth at =
    grows.orders start depth (AllOf_at (IsNodeAt scene start depth) level i node h is at) (ahead start depth at)

pub counts_then : (old mid new : Ahead) → Counts old mid → Counts mid new → Counts old new
counts_then old mid new first later = record {
  most = later.most ∙ first.most;
  states = omega (arith, first.states, later.states);
  bound = later.bound;
}

pub next_level : (scene : Scene) (question : Question) (start : Stand) (level next : List Node)
    → AreNodesAhead scene level next → AllOf (IsPassed scene question next) level → IsLevel scene question start level
    → IsLevel scene question start next
next_level scene question start level next ahead passed l = record {
  depth = suc l.depth;
  nodes_at = ahead start l.depth l.nodes_at;
  through = λ steps m.
      let here = l.through steps m in
      let later = pass_all scene question next level here.0 passed here.2 in
      let long : steps ≡ l.depth + here.0 = here.1 in
      let one : here.0 ≡ suc later.0 = later.1 in
      (later.0, omega arith, later.2);
}

pub first_level : (scene : Scene) (question : Question) (start : Stand) (node : Node) → node_stand node ≡ start
    → node.choices.items ≡ [] → node.answers.items ≡ [] → IsLevel scene question start (node ∷ [])
first_level scene question start node is choices answers = record {
  depth = 0;
  nodes_at = (
    record {
      leads =
          subst (λ (z : List Choice). IsOrder scene start z node.answers.items (node_stand node)) (sym choices)
          (subst (λ (z : List Answer). IsOrder scene start [] z (node_stand node)) (sym answers) is);
      long = ap length choices;
    },
    tt,
  );
  through = λ steps m. (steps, omega arith, inl (subst (λ (z : Stand). MeetsIn scene question z steps) (sym is) m));
}

-- ---- what is found

first_found : (scene : Scene) (question : Question) (start : Stand) (level : List Node) (i : ℕ) (node : Node)
    → i < length level → node ≡ get_or level i node →
    IsEnd scene (node_stand node) → Meets scene question (node_stand node) → IsLevel scene question start level
    → MeetsFirst scene question start node.choices.items node.answers.items
first_found scene question start level i node h is ends meets l =
    let at : IsNodeAt scene start l.depth node = AllOf_at (IsNodeAt scene start l.depth) level i node h is l.nodes_at in
    record {
      end = node_stand node;
      leads = at.leads;
      ends = ends;
      meets = meets;
      first = λ steps m.
          let long : steps ≡ l.depth + (l.through steps m).0 = (l.through steps m).1 in
          let depth : length node.choices.items ≡ l.depth = at.long in
          omega arith;
      runs = order_runs scene start node.choices.items node.answers.items (node_stand node) at.leads;
    }

pub order_found : (scene : Scene) (question : Question) (start : Stand) (level : List Node) (i : ℕ) (node : Node)
    (found : Found) → i < length level → node ≡ get_or level i node →
    IsEnd scene (node_stand node) → Meets scene question (node_stand node) → IsOrderTo node found
    → IsLevel scene question start level → IsFound scene question start found
order_found scene question start level i node (founds.Order choices answers) h is ends meets to l =
    subst (λ (z : List Choice). MeetsFirst scene question start z answers.items) (sym to.0)
    (subst (λ (z : List Answer). MeetsFirst scene question start node.choices.items z) (sym to.1)
    (first_found scene question start level i node h is ends meets l))
order_found scene question start level i node founds.Never h is ends meets to l = elim to [ ]
order_found scene question start level i node (founds.Cut below) h is ends meets to l = elim to [ ]

-- orders that meet the question are no shorter than those that lead to a level
pub none_below : (scene : Scene) (question : Question) (start : Stand) (level : List Node) (i : ℕ) (node : Node)
    → i < length level → node ≡ get_or level i node →
    IsLevel scene question start level → NoneBelow scene question start (length node.choices.items)
none_below scene question start level i node h is l steps m =
    let at : IsNodeAt scene start l.depth node = AllOf_at (IsNodeAt scene start l.depth) level i node h is l.nodes_at in
    let long : steps ≡ l.depth + (l.through steps m).0 = (l.through steps m).1 in
    let depth : length node.choices.items ≡ l.depth = at.long in
    omega arith

pub none_found : (scene : Scene) (question : Question) (start : Stand) → IsLevel scene question start []
    → NoneMeets scene question start
none_found scene question start l steps m = (l.through steps m).2
