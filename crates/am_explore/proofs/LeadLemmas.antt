-- Where choices lead that are named by their numbers.
use Rattle.std.proofs.Common.{◌≡◌, ◌<◌, ◌+◌, ℕ, zero, suc, List, [], ◌∷◌, ◌++◌, length, get_or, take, slice_get}
use Rattle.std.proofs.Common.{Some, refl, sym, ap, subst, ◌∙◌, inl, inr, arith}
use Rattle.std.proofs.lemmas.List.{take_more}
use Rattle.std.proofs.lemmas.Option.{same_Some}
use Rattle.am_machine.specs.{Answer}
use Rattle.am_explore.specs.declared.choice.Choice.{Choice}
use Rattle.am_explore.specs.declared.scene.Scene.{Scene}
use Rattle.am_explore.specs.Leads.{AreTaken, IsTaken, NoneTaken, numbered}
use Rattle.am_explore.specs.Levels.{IsNoStep}
use Rattle.am_explore.specs.Orders.{IsIn, IsMade, IsOrder, Stand, choices_at}
use Rattle.am_explore.proofs.OrderLemmas.{same_made}

-- ---- a choice and its number

number_of : (choices : List Choice) (choice : Choice) → IsIn choice choices
    → (i : ℕ) × (slice_get choices i ≡ Some choice)
number_of [] choice here = elim here [ ]
number_of (c ∷ cs) choice (inl is) = (0, ap (λ (z : Choice). Some z) (sym is))
number_of (c ∷ cs) choice (inr later) = let found = number_of cs choice later in (suc found.0, found.1)

is_in : (choices : List Choice) (i : ℕ) (choice : Choice) → slice_get choices i ≡ Some choice → IsIn choice choices
is_in [] i choice here = absurd cc
is_in (c ∷ cs) zero choice here = inl (sym (same_Some c choice here))
is_in (c ∷ cs) (suc i) choice here = inr (is_in cs i choice here)

numbered_in : (choices : List Choice) (number : ℕ) (choice : Choice) → numbered number choices ≡ Some choice
    → IsIn choice choices
numbered_in choices zero choice here = absurd cc
numbered_in choices (suc i) choice here = is_in choices i choice here

-- ---- orders have numbers

pub numbers_of : (scene : Scene) (a : Stand) (choices : List Choice) (answers : List Answer) (b : Stand)
    → IsOrder scene a choices answers b → (numbers : List ℕ) × AreTaken scene a numbers choices answers b
numbers_of scene a [] [] b leads = ([], leads)
numbers_of scene a (choice ∷ choices) (answer ∷ answers) b leads =
    let found = number_of (choices_at scene a) choice leads.1.chosen in
    let rest = numbers_of scene leads.0 choices answers b leads.2 in
    (suc found.0 ∷ rest.0, (leads.0, record { chosen = found.1; made = leads.1.made }, rest.1))
numbers_of scene a [] (answer ∷ answers) b leads = elim leads [ ]
numbers_of scene a (choice ∷ choices) [] b leads = elim leads [ ]

pub order_of : (scene : Scene) (a : Stand) (numbers : List ℕ) (choices : List Choice) (answers : List Answer)
    (b : Stand) → AreTaken scene a numbers choices answers b → IsOrder scene a choices answers b
order_of scene a [] [] [] b taken = taken
order_of scene a (number ∷ numbers) (choice ∷ choices) (answer ∷ answers) b taken = (
  taken.0,
  record { chosen = numbered_in (choices_at scene a) number choice taken.1.chosen; made = taken.1.made },
  order_of scene taken.0 numbers choices answers b taken.2,
)
order_of scene a [] [] (answer ∷ answers) b taken = elim taken [ ]
order_of scene a [] (choice ∷ choices) [] b taken = elim taken [ ]
order_of scene a [] (choice ∷ choices) (answer ∷ answers) b taken = elim taken [ ]
order_of scene a (number ∷ numbers) [] [] b taken = elim taken [ ]
order_of scene a (number ∷ numbers) [] (answer ∷ answers) b taken = elim taken [ ]
order_of scene a (number ∷ numbers) (choice ∷ choices) [] b taken = elim taken [ ]

-- ---- one number more

taken_push : (scene : Scene) (a : Stand) (numbers : List ℕ) (choices : List Choice) (answers : List Answer)
    (mid : Stand) (number : ℕ) (choice : Choice) (answer : Answer) (b : Stand) →
    AreTaken scene a numbers choices answers mid → IsTaken scene mid number choice answer b
    → AreTaken scene a (numbers ++ number ∷ []) (choices ++ choice ∷ []) (answers ++ answer ∷ []) b
taken_push scene a [] [] [] mid number choice answer b taken one =
    (b, subst (λ (z : Stand). IsTaken scene z number choice answer b) taken one, refl)
taken_push scene a (n ∷ numbers) (c ∷ choices) (x ∷ answers) mid number choice answer b taken one =
    (taken.0, taken.1, taken_push scene taken.0 numbers choices answers mid number choice answer b taken.2 one)
taken_push scene a [] [] (x ∷ answers) mid number choice answer b taken one = elim taken [ ]
taken_push scene a [] (c ∷ choices) [] mid number choice answer b taken one = elim taken [ ]
taken_push scene a [] (c ∷ choices) (x ∷ answers) mid number choice answer b taken one = elim taken [ ]
taken_push scene a (n ∷ numbers) [] [] mid number choice answer b taken one = elim taken [ ]
taken_push scene a (n ∷ numbers) [] (x ∷ answers) mid number choice answer b taken one = elim taken [ ]
taken_push scene a (n ∷ numbers) (c ∷ choices) [] mid number choice answer b taken one = elim taken [ ]

pub taken_more : (scene : Scene) (a : Stand) (numbers : List ℕ) (i number : ℕ) (choices : List Choice)
    (answers : List Answer) (mid : Stand) (choice : Choice) (answer : Answer) (b : Stand) →
    i < length numbers → number ≡ get_or numbers i number → AreTaken scene a (take i numbers) choices answers mid
    → IsTaken scene mid number choice answer b →
    AreTaken scene a (take (i + 1) numbers) (choices ++ choice ∷ []) (answers ++ answer ∷ []) b
taken_more scene a numbers i number choices answers mid choice answer b h is taken one =
    let longer : take (i + 1) numbers ≡ take i numbers ++ number ∷ [] = take_more numbers i number h
    ∙ ap (λ (z : ℕ). take i numbers ++ z ∷ []) (sym is) in
    subst (λ (z : List ℕ). AreTaken scene a z (choices ++ choice ∷ []) (answers ++ answer ∷ []) b) (sym longer)
    (taken_push scene a (take i numbers) choices answers mid number choice answer b taken one)

-- ---- a number that is no step

-- what is taken is no step
not_taken : (scene : Scene) (a : Stand) (number : ℕ) (choice : Choice)
    → numbered number (choices_at scene a) ≡ Some choice → IsNoStep scene a choice →
    (other : Choice) (answer : Answer) (b : Stand) → IsTaken scene a number other answer b → ⊥
not_taken scene a number choice is none other answer b taken =
    let same : other ≡ choice = same_Some other choice (sym taken.chosen ∙ is) in
    none answer b (subst (λ (z : Choice). IsMade scene a z answer b) same taken.made)

-- what is taken leads to one place
same_taken : (scene : Scene) (a : Stand) (number : ℕ) (choice other : Choice) (answer next : Answer) (b c : Stand)
    → IsTaken scene a number choice answer b → IsTaken scene a number other next c → b ≡ c
same_taken scene a number choice other answer next b c one more =
    let same : choice ≡ other = same_Some choice other (sym one.chosen ∙ more.chosen) in
    same_made scene a other answer next b c (subst (λ (z : Choice). IsMade scene a z answer b) same one.made) more.made

pub none_taken : (scene : Scene) (a : Stand) (numbers : List ℕ) (i number : ℕ) (choices : List Choice)
    (answers : List Answer) (mid : Stand) (choice : Choice) →
    i < length numbers → number ≡ get_or numbers i number → AreTaken scene a (take i numbers) choices answers mid →
    numbered number (choices_at scene mid) ≡ Some choice → IsNoStep scene mid choice → NoneTaken scene a numbers
none_taken scene a [] i number choices answers mid choice h is led named none cs xs b taken = absurd (omega arith)
none_taken scene a (n ∷ numbers) zero number [] [] mid choice h is led named none (c ∷ cs) (x ∷ xs) b taken =
    not_taken scene mid number choice named none c x taken.0
    (subst (λ (m : ℕ). IsTaken scene mid m c x taken.0) (sym is)
    (subst (λ (z : Stand). IsTaken scene z n c x taken.0) (sym led) taken.1))
none_taken scene a (n ∷ numbers) (suc i) number (choice1 ∷ choices) (answer1 ∷ answers) mid choice h is led named none
    (c ∷ cs) (x ∷ xs) b taken =
    let same : taken.0 ≡ led.0 = same_taken scene a n c choice1 x answer1 taken.0 led.0 taken.1 led.1 in
    none_taken scene led.0 numbers i number choices answers mid choice (omega arith) is led.2 named none cs xs b
    (subst (λ (z : Stand). AreTaken scene z numbers cs xs b) same taken.2)
none_taken scene a (n ∷ numbers) i number choices answers mid choice h is led named none [] [] b taken = elim taken [ ]
none_taken scene a (n ∷ numbers) i number choices answers mid choice h is led named none [] (x ∷ xs) b taken = elim
    taken [ ]
none_taken scene a (n ∷ numbers) i number choices answers mid choice h is led named none (c ∷ cs) [] b taken = elim
    taken [ ]
none_taken scene a (n ∷ numbers) zero number [] (answer1 ∷ answers) mid choice h is led named none (c ∷ cs) (x ∷ xs) b
    taken = elim led [ ]
none_taken scene a (n ∷ numbers) zero number (choice1 ∷ choices) [] mid choice h is led named none (c ∷ cs) (x ∷ xs) b
    taken = elim led [ ]
none_taken scene a (n ∷ numbers) zero number (choice1 ∷ choices) (answer1 ∷ answers) mid choice h is led named none
    (c ∷ cs) (x ∷ xs) b taken = elim led [ ]
none_taken scene a (n ∷ numbers) (suc i) number [] [] mid choice h is led named none (c ∷ cs) (x ∷ xs) b taken = elim
    led [ ]
none_taken scene a (n ∷ numbers) (suc i) number [] (answer1 ∷ answers) mid choice h is led named none (c ∷ cs) (x ∷ xs)
    b taken = elim led [ ]
none_taken scene a (n ∷ numbers) (suc i) number (choice1 ∷ choices) [] mid choice h is led named none (c ∷ cs) (x ∷ xs)
    b taken = elim led [ ]
