-- Lists: what passes a test in them, how they are split at a place, and the counting of `since` over
-- two parts.
use Rattle.std.proofs.Common.{◌≡◌, Bool, true, false, List, [], ◌∷◌, ◌++◌, refl, sym, ap, subst, ◌∙◌, inl, inr}
use Rattle.std.specs.Prelude.{◌⊎◌, ◌&&◌, ◌||◌, if◌then◌else◌}
use Rattle.std.specs.List.{list_any, list_all, Contains}
use Rattle.std.proofs.lemmas.List.Elements.{Contains-push, Contains-append_left, Contains-append_right}
use Rattle.std.proofs.lemmas.List.Folds.{list_any_at}
use Rattle.am_names.proofs.Basics.{or_left, or_right, or_neither, neither_of_or, and_of_both, both_of_and, false_unless_true}
use Rattle.am_state.specs.{Obs}
use Rattle.am_laws.specs.{HasNo, since}

pub if_of : (c x : Bool) → (c ≡ true → x ≡ true) → (if c then x else true) ≡ true
if_of true x h = h refl
if_of false x h = refl

pub if_then : (c x : Bool) → c ≡ true → (if c then x else true) ≡ true → x ≡ true
if_then true x g h = h
if_then false x g h = absurd cc

-- ---- what passes a test

pub any_at : {X : Type 0} (test : X → Bool) (before : List X) (x : X) (later : List X) → test x ≡ true → list_any test (before ++ x ∷ later) ≡ true
any_at test [] x later h = or_left (test x) (list_any test later) h
any_at test (y ∷ before) x later h = or_right (test y) (list_any test (before ++ x ∷ later)) (any_at test before x later h)

any_first : {X : Type 0} (test : X → Bool) (x : X) (xs : List X) (b : Bool) → test x ≡ b → (list_any test xs ≡ true → (y : X) × Contains xs y × (test y ≡ true)) → (b || list_any test xs) ≡ true → (y : X) × Contains (x ∷ xs) y × (test y ≡ true)
any_first test x xs true e later h = (x, Contains-append_left (x ∷ []) xs x (Contains-push [] x), e)
any_first test x xs false e later h = let y = later h in (y.0, Contains-append_right (x ∷ []) xs y.0 y.1, y.2)

pub any_some : {X : Type 0} (test : X → Bool) (xs : List X) → list_any test xs ≡ true → (x : X) × Contains xs x × (test x ≡ true)
any_some test [] h = absurd cc
any_some test (x ∷ xs) h = any_first test x xs (test x) refl (any_some test xs) h

pub any_in : {X : Type 0} (test : X → Bool) (xs : List X) (x : X) → Contains xs x → test x ≡ true → list_any test xs ≡ true
any_in test xs x c h = list_any_at test xs c.0 x c.1 (ap test c.2 ∙ h)

pub any_none : {X : Type 0} (test : X → Bool) (xs : List X) → ((x : X) → test x ≡ true → ¬ Contains xs x) → list_any test xs ≡ false
any_none test xs h = false_unless_true (list_any test xs) (λ e. let x = any_some test xs e in h x.0 x.2 x.1)

pub none_in : {X : Type 0} (test : X → Bool) (xs : List X) → list_any test xs ≡ false → (x : X) → test x ≡ true → ¬ Contains xs x
none_in test xs h x t = λ c. let yes = any_in test xs x c t in absurd cc

pub all_each : {X : Type 0} (test : X → Bool) (xs : List X) → ((x : X) → test x ≡ true) → list_all test xs ≡ true
all_each test [] h = refl
all_each test (x ∷ xs) h = and_of_both (test x) (list_all test xs) (h x) (all_each test xs h)

pub all_at : {X : Type 0} (test : X → Bool) (before : List X) (x : X) (later : List X) → list_all test (before ++ x ∷ later) ≡ true → test x ≡ true
all_at test [] x later h = (both_of_and (test x) (list_all test later) h).0
all_at test (y ∷ before) x later h = all_at test before x later (both_of_and (test y) (list_all test (before ++ x ∷ later)) h).1

-- ---- lists that are split at a place

pub all_split : {X : Type 0} (test : X → Bool) (xs : List X) → ((before : List X) (x : X) (later : List X) → xs ≡ before ++ x ∷ later → test x ≡ true) → list_all test xs ≡ true
all_split test [] h = refl
all_split test (x ∷ xs) h =
    and_of_both (test x) (list_all test xs) (h [] x xs refl) (all_split test xs (λ before y later e. h (x ∷ before) y later (ap (λ ys. x ∷ ys) e)))

pub none_split : {X : Type 0} (test : X → Bool) (xs : List X) → ((before : List X) (x : X) (later : List X) → xs ≡ before ++ x ∷ later → test x ≡ false) → list_any test xs ≡ false
none_split test [] h = refl
none_split test (x ∷ xs) h =
    or_neither (test x) (list_any test xs) (h [] x xs refl) (none_split test xs (λ before y later e. h (x ∷ before) y later (ap (λ ys. x ∷ ys) e)))

pub all_same : {X : Type 0} (f g : X → Bool) → ((x : X) → f x ≡ g x) → (xs : List X) → list_all f xs ≡ list_all g xs
all_same f g h [] = refl
all_same f g h (x ∷ xs) = ap (λ (b : Bool). b && list_all f xs) (h x) ∙ ap (λ (b : Bool). g x && b) (all_same f g h xs)

pub any_same : {X : Type 0} (f g : X → Bool) → ((x : X) → f x ≡ g x) → (xs : List X) → list_any f xs ≡ list_any g xs
any_same f g h [] = refl
any_same f g h (x ∷ xs) = ap (λ (b : Bool). b || list_any f xs) (h x) ∙ ap (λ (b : Bool). g x || b) (any_same f g h xs)

-- a place of a list that ends in o is a place before o, or that of o
abbrev pub AtEnd : List Obs → Obs → List Obs → Obs → List Obs → Type 0
AtEnd xs o before x later =
    ((before ≡ xs) × (x ≡ o) × (later ≡ []))
    ⊎ ((between : List Obs) × (later ≡ between ++ o ∷ []) × (xs ≡ before ++ x ∷ between))

at_end_more : (y : Obs) (xs : List Obs) (o : Obs) (z : Obs) (before : List Obs) (x : Obs) (later : List Obs) → y ≡ z → AtEnd xs o before x later → AtEnd (y ∷ xs) o (z ∷ before) x later
at_end_more y xs o z before x later e (inl h) = inl (cc, h.1, h.2)
at_end_more y xs o z before x later e (inr h) = inr (h.0, h.1, cc)

head_same : (y z : Obs) (xs ys : List Obs) → y ∷ xs ≡ z ∷ ys → y ≡ z
head_same y z xs ys e = cc

tail_same : (y z : Obs) (xs ys : List Obs) → y ∷ xs ≡ z ∷ ys → xs ≡ ys
tail_same y z xs ys e = cc

pub at_end : (xs : List Obs) (o : Obs) (before : List Obs) (x : Obs) (later : List Obs) → xs ++ o ∷ [] ≡ before ++ x ∷ later → AtEnd xs o before x later
at_end [] o [] x later e = inl (refl, cc, cc)
at_end [] o (z ∷ []) x later e = absurd cc
at_end [] o (z ∷ y ∷ before) x later e = absurd cc
at_end (y ∷ xs) o [] x later e = inr (xs, cc, cc)
at_end (y ∷ xs) o (z ∷ before) x later e = at_end_more y xs o z before x later (head_same y z (xs ++ o ∷ []) (before ++ x ∷ later) e) (at_end xs o before x later (tail_same y z (xs ++ o ∷ []) (before ++ x ∷ later) e))

-- ---- since

pub since-append : (these those : Obs → Bool) (b : Bool) (xs ys : List Obs) → since these those b (xs ++ ys) ≡ since these those (since these those b xs) ys
since-append these those b [] ys = refl
since-append these those b (o ∷ xs) ys = since-append these those (if these o then true else if those o then false else b) xs ys

pub if_no : (t d : Bool) → t ≡ false → (if t then true else if d then false else false) ≡ false
if_no true d h = absurd cc
if_no false true h = refl
if_no false false h = refl

pub since_no : (these those : Obs → Bool) (xs : List Obs) → HasNo these xs → since these those false xs ≡ false
since_no these those [] h = refl
since_no these those (o ∷ xs) h =
    let no = neither_of_or (these o) (list_any these xs) h in
    subst (λ (b : Bool). since these those b xs ≡ false) (sym (if_no (these o) (those o) no.0)) (since_no these those xs no.1)
