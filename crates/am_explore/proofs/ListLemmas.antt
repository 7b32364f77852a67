-- Lists that grow by what is left of others.
use Rattle.std.proofs.Common.{◌≡◌, ◌⊎◌, ℕ, zero, suc, ◌+◌, ◌<◌, ◌≤◌, min, List, [], ◌∷◌, ◌++◌, length, get_or}
use Rattle.std.proofs.Common.{drop, take, refl, sym, ap, subst, ◌∙◌, inl, inr, arith}
use Rattle.std.specs.Prelude.{if◌then◌else◌}
use Rattle.std.proofs.lemmas.List.{append_assoc, append-nil, drop_more, drop_all, take_more}
use Rattle.std.proofs.lemmas.Bool.{cases_lt}
use Rattle.am_machine.specs.{Answer, Event}
use Rattle.am_explore.specs.declared.choice.Choice.{Choice}
use Rattle.am_explore.specs.declared.choice.Who.{Who}
use Rattle.am_explore.specs.Choices.{next_of, thread_choices}
use Rattle.am_explore.specs.Standings.{Standing, is_of_thread, moved, went}
use Rattle.am_explore.specs.Levels.{AllOf}
use Rattle.am_explore.specs.Orders.{IsIn}

-- what a list of things gives: one more, when there are so many behind it
module _ {A B : Type 0} (G : List A → List B) (f : A → List B)
    (opens : (x : A) (xs : List A) → G (x ∷ xs) ≡ f x ++ G xs) where
  pub one_more : (done : List B) (xs : List A) (i : ℕ) (x : A) → i < length xs → x ≡ get_or xs i x →
      (done ++ f x) ++ G (drop (i + 1) xs) ≡ done ++ G (drop i xs)
  one_more done xs i x h is =
      append_assoc done (f x) (G (drop (i + 1) xs)) ∙ ap (λ (z : List B). done ++ z) (sym (opens x (drop (i + 1) xs)))
      ∙ ap (λ (y : A). done ++ G (y ∷ drop (i + 1) xs)) is ∙ ap (λ (z : List A). done ++ G z) (sym (drop_more xs i x h))

-- nothing is left
pub all_given : {A B : Type 0} (G : List A → List B) → G [] ≡ [] → (done : List B) (xs : List A) (i : ℕ) → length xs ≤ i
    → done ++ G (drop i xs) ≡ done
all_given {A} {B} G none done xs i h = ap (λ (z : List A). done ++ G z) (drop_all i xs h)
    ∙ ap (λ (z : List B). done ++ z) none ∙ append-nil done

-- ---- two lists side by side

pub one_ended : (a b n : ℕ) → min a b ≤ n → (a ≤ n) ⊎ (b ≤ n)
one_ended a b n h = elim (cases_lt n a) [ inl more ↦ inr (omega arith) | inr ended ↦ inl ended ]

pub threads_more : (done : List Choice) (threads : List (List Event)) (standings : List Standing) (n : ℕ)
    (events : List Event) (s : Standing) → n < length threads → n < length standings →
    events ≡ get_or threads n events → s ≡ get_or standings n s →
    (done ++ next_of n (drop s.next events))
    ++ thread_choices (n + 1) (drop (n + 1) threads) (drop (n + 1) standings) ≡ done
    ++ thread_choices n (drop n threads) (drop n standings)
threads_more done threads standings n events s h k t is =
    let ts = drop (n + 1) threads in
    let ss = drop (n + 1) standings in
    append_assoc done (next_of n (drop s.next events)) (thread_choices (n + 1) ts ss)
    ∙ ap (λ (z : List Event). done ++ thread_choices n (z ∷ ts) (s ∷ ss)) t
    ∙ ap (λ (z : List (List Event)). done ++ thread_choices n z (s ∷ ss)) (sym (drop_more threads n events h))
    ∙ ap (λ (z : Standing). done ++ thread_choices n (drop n threads) (z ∷ ss)) is
    ∙ ap (λ (z : List Standing). done ++ thread_choices n (drop n threads) z) (sym (drop_more standings n s k))

no_standings : (n : ℕ) (threads : List (List Event)) → thread_choices n threads [] ≡ []
no_standings n [] = refl
no_standings n (t ∷ ts) = refl

pub threads_given : (done : List Choice) (threads : List (List Event)) (standings : List Standing) (n : ℕ)
    → (length threads ≤ n) ⊎ (length standings ≤ n) →
    done ++ thread_choices n (drop n threads) (drop n standings) ≡ done
threads_given done threads standings n (inl h) = ap
    (λ (z : List (List Event)). done ++ thread_choices n z (drop n standings)) (drop_all n threads h) ∙ append-nil done
threads_given done threads standings n (inr h) =
    ap (λ (z : List Standing). done ++ thread_choices n (drop n threads) z) (drop_all n standings h)
    ∙ ap (λ (z : List Choice). done ++ z) (no_standings n (drop n threads)) ∙ append-nil done

pub moved_more : (done : List Standing) (threads : List (List Event)) (standings : List Standing) (n : ℕ) (who : Who)
    (answer : Answer) (events : List Event) (s left : Standing) → n < length threads → n < length standings →
    events ≡ get_or threads n events → s ≡ get_or standings n s
    → left ≡ (if is_of_thread n who then went events answer s else s) →
    (done ++ left ∷ []) ++ moved (n + 1) who answer (drop (n + 1) threads) (drop (n + 1) standings) ≡ done
    ++ moved n who answer (drop n threads) (drop n standings)
moved_more done threads standings n who answer events s left h k t is came =
    let ts = drop (n + 1) threads in
    let ss = drop (n + 1) standings in
    append_assoc done (left ∷ []) (moved (n + 1) who answer ts ss)
    ∙ ap (λ (z : Standing). done ++ (z ∷ moved (n + 1) who answer ts ss)) came
    ∙ ap (λ (z : List Event). done ++ moved n who answer (z ∷ ts) (s ∷ ss)) t
    ∙ ap (λ (z : List (List Event)). done ++ moved n who answer z (s ∷ ss)) (sym (drop_more threads n events h))
    ∙ ap (λ (z : Standing). done ++ moved n who answer (drop n threads) (z ∷ ss)) is
    ∙ ap (λ (z : List Standing). done ++ moved n who answer (drop n threads) z) (sym (drop_more standings n s k))

nobody_moved : (n : ℕ) (who : Who) (answer : Answer) (threads : List (List Event)) → moved n who answer threads [] ≡ []
nobody_moved n who answer [] = refl
nobody_moved n who answer (t ∷ ts) = refl

pub moved_given : (done : List Standing) (threads : List (List Event)) (standings : List Standing) (n : ℕ) (who : Who)
    (answer : Answer) → (length threads ≤ n) ⊎ (length standings ≤ n) →
    done ++ moved n who answer (drop n threads) (drop n standings) ≡ done
moved_given done threads standings n who answer (inl h) = ap
    (λ (z : List (List Event)). done ++ moved n who answer z (drop n standings)) (drop_all n threads h)
    ∙ append-nil done
moved_given done threads standings n who answer (inr h) =
    ap (λ (z : List Standing). done ++ moved n who answer (drop n threads) z) (drop_all n standings h)
    ∙ ap (λ (z : List Standing). done ++ z) (nobody_moved n who answer (drop n threads)) ∙ append-nil done

-- ---- all of a list

pub AllOf_push : {A : Type 0} (P : A → Type 0) (xs : List A) (x : A) → AllOf P xs → P x → AllOf P (xs ++ x ∷ [])
AllOf_push P [] x all here = (here, tt)
AllOf_push P (y ∷ ys) x all here = (all.0, AllOf_push P ys x all.1 here)

pub AllOf_weaker : {A : Type 0} (P Q : A → Type 0) (xs : List A) → ((x : A) → P x → Q x) → AllOf P xs → AllOf Q xs
AllOf_weaker P Q [] h all = tt
AllOf_weaker P Q (y ∷ ys) h all = (h y all.0, AllOf_weaker P Q ys h all.1)

pub AllOf_at : {A : Type 0} (P : A → Type 0) (xs : List A) (i : ℕ) (x : A) → i < length xs → x ≡ get_or xs i x
    → AllOf P xs → P x
AllOf_at P [] i x h is all = absurd (omega arith)
AllOf_at P (y ∷ ys) zero x h is all = subst P (sym is) all.0
AllOf_at P (y ∷ ys) (suc i) x h is all = AllOf_at P ys i x (omega arith) is all.1

pub AllOf_more : {A : Type 0} (P : A → Type 0) (xs : List A) (i : ℕ) (x : A) → i < length xs → x ≡ get_or xs i x
    → AllOf P (take i xs) → P x → AllOf P (take (i + 1) xs)
AllOf_more {A} P xs i x h is all here =
    let longer : take (i + 1) xs ≡ take i xs ++ x ∷ [] = take_more xs i x h
    ∙ ap (λ (z : A). take i xs ++ z ∷ []) (sym is) in
    subst (λ (z : List A). AllOf P z) (sym longer) (AllOf_push P (take i xs) x all here)

pub AllOf_in : (P : Choice → Type 0) (choices : List Choice) (choice : Choice) → IsIn choice choices → AllOf P choices
    → P choice
AllOf_in P [] choice here all = elim here [ ]
AllOf_in P (c ∷ cs) choice (inl is) all = subst P (sym is) all.0
AllOf_in P (c ∷ cs) choice (inr later) all = AllOf_in P cs choice later all.1

pub IsIn_at : (choices : List Choice) (i : ℕ) (choice : Choice) → i < length choices → choice ≡ get_or choices i choice
    → IsIn choice choices
IsIn_at [] i choice h is = absurd (omega arith)
IsIn_at (c ∷ cs) zero choice h is = inl is
IsIn_at (c ∷ cs) (suc i) choice h is = inr (IsIn_at cs i choice (omega arith) is)
