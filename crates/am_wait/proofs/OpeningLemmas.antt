-- The open tokens of each trigger.
use Rattle.std.proofs.Common.{◌≡◌, ℕ, ◌+◌, Bool, true, false, cond, not, ◌==◌, ◌&&◌, List, [], ◌∷◌, ◌++◌, length, map, Some, None, refl, sym, ap, ◌∙◌, arith}
use Rattle.std.specs.Prelude.{filter, find, Vec}
use Rattle.std.specs.Map.{lookup}
use Rattle.std.specs.Option.{option_map}
use Rattle.std.proofs.lemmas.Bool.Decides.{nat_tests}
use Rattle.indexmap.specs.IndexMap.{IndexMap, get}
use Rattle.am_names.specs.{same_trigger, eq-value, RiseBy, TokenKind}
use Rattle.am_names.specs.declared.trigger.Trigger.{Trigger}
use Rattle.am_names.proofs.SameTriggers.{equal_by_same_trigger, same_trigger_either_way, key_is_same_trigger}
use Rattle.am_wait.specs.{HeldToken, held_of, without_held, is_held_on, held_open_on, with_key, joined_key, same_kind}
use Rattle.am_wait.specs.Openings.{listed_in, but, opening_of, openings_at}
use Rattle.am_wait.specs.declared.openings.Opening.{Opening}
use Rattle.am_wait.proofs.FindLemmas.{absent}
use Rattle.am_wait.proofs.CallLemmas.{all_kept}

-- ---- lists by trigger

-- the test of a key tells triggers apart
key_says : (trigger g : Trigger) → eq-value.it trigger g ≡ same_trigger trigger g
key_says trigger g = key_is_same_trigger trigger g ∙ same_trigger_either_way g trigger

module _ {Z S : Type 0} (old new : IndexMap Trigger (Vec Opening Z) S) (trigger : Trigger) where
  -- a list that changes is that of its trigger
  pub one_list_changes :
      (f : List Opening → List Opening) (list changed : Vec Opening Z) →
      get eq-value.it old trigger ≡ Some list → changed.items ≡ f list.items →
      ((q : Trigger) → get eq-value.it new q ≡ cond (eq-value.it trigger q) (Some changed) (get eq-value.it old q)) →
      (g : Trigger) →
      listed_in (get eq-value.it new g) ≡
      cond (same_trigger trigger g) (f (listed_in (get eq-value.it old g))) (listed_in (get eq-value.it old g))
  one_list_changes f list changed there made updates g =
      ap (λ o. listed_in o) (updates g) ∙
      ap (λ (b : Bool). listed_in (cond b (Some changed) (get eq-value.it old g))) (key_says trigger g) ∙
      by (same_trigger trigger g) refl
    where
      by :
          (b : Bool) → same_trigger trigger g ≡ b →
          listed_in (cond b (Some changed) (get eq-value.it old g)) ≡
          cond b (f (listed_in (get eq-value.it old g))) (listed_in (get eq-value.it old g))
      by true e = made ∙ ap (λ o. f (listed_in o)) (sym there ∙ ap (λ (t : Trigger). get eq-value.it old t) (equal_by_same_trigger trigger g e))
      by false e = refl

  -- an empty list that goes changes nothing
  pub empty_list_goes :
      listed_in (get eq-value.it old trigger) ≡ [] →
      ((q : Trigger) → get eq-value.it new q ≡ cond (eq-value.it trigger q) None (get eq-value.it old q)) →
      (g : Trigger) → listed_in (get eq-value.it new g) ≡ listed_in (get eq-value.it old g)
  empty_list_goes none updates g =
      ap (λ o. listed_in o) (updates g) ∙
      ap (λ (b : Bool). listed_in (cond b None (get eq-value.it old g))) (key_says trigger g) ∙
      by (same_trigger trigger g) refl
    where
      by :
          (b : Bool) → same_trigger trigger g ≡ b →
          listed_in (cond b None (get eq-value.it old g)) ≡ listed_in (get eq-value.it old g)
      by true e = sym none ∙ ap (λ (t : Trigger). listed_in (get eq-value.it old t)) (equal_by_same_trigger trigger g e)
      by false e = refl

none_either_way : (b : Bool) → cond {A = List Opening} b [] [] ≡ []
none_either_way true = refl
none_either_way false = refl

pub nothing_there : (openings : List Opening) → (length openings == 0) ≡ true → openings ≡ []
nothing_there [] e = refl
nothing_there (opening ∷ openings) e = absurd (grind (arith, nat_tests, e))

-- the lists of a file system go
pub lists_of_others :
    {Z : Type 0} (fs : ℕ) (g : Trigger) (entries : List (Trigger × Vec Opening Z)) →
    listed_in (lookup (eq-value.it g) (filter (λ entry. not (entry.0.fs == fs)) entries)) ≡
    cond (g.fs == fs) [] (listed_in (lookup (eq-value.it g) entries))
lists_of_others fs g [] = sym (none_either_way (g.fs == fs))
lists_of_others {Z} fs g (entry ∷ entries) =
    by (entry.0.fs == fs) refl (eq-value.it g entry.0) refl (lists_of_others fs g entries)
  where
    others : List (Trigger × Vec Opening Z)
    others = filter (λ e. not (e.0.fs == fs)) entries

    its : (b : Bool) → (entry.0.fs == fs) ≡ b → eq-value.it g entry.0 ≡ true → (g.fs == fs) ≡ b
    its b e same = ap (λ (t : Trigger). t.fs == fs) (equal_by_same_trigger g entry.0 (sym (key_says g entry.0) ∙ same)) ∙ e

    by :
        (b : Bool) → (entry.0.fs == fs) ≡ b → (c : Bool) → eq-value.it g entry.0 ≡ c →
        listed_in (lookup (eq-value.it g) others) ≡ cond (g.fs == fs) [] (listed_in (lookup (eq-value.it g) entries)) →
        listed_in (lookup (eq-value.it g) (cond (not b) (entry ∷ others) others)) ≡
        cond (g.fs == fs) [] (listed_in (cond c (Some entry.1) (lookup (eq-value.it g) entries)))
    by true e true same later = later ∙ (rw (its true e same) refl)
    by true e false same later = later
    by false e true same later = rw (same, its false e same) refl
    by false e false same later = rw same later

-- ---- rows by trigger

pub openings_cons :
    (g : Trigger) (row : HeldToken) (tokens : List HeldToken) →
    openings_at (row ∷ tokens) g ≡
    cond (same_trigger row.trigger g) (opening_of row ∷ openings_at tokens g) (openings_at tokens g)
openings_cons g row tokens = by (same_trigger row.trigger g)
  where
    by :
        (b : Bool) →
        map opening_of (cond b (row ∷ filter (λ r. same_trigger r.trigger g) tokens) (filter (λ r. same_trigger r.trigger g) tokens)) ≡
        cond b (opening_of row ∷ openings_at tokens g) (openings_at tokens g)
    by true = refl
    by false = refl

openings_if :
    (g : Trigger) (row : HeldToken) (tokens : List HeldToken) (b : Bool) → same_trigger row.trigger g ≡ b →
    openings_at (row ∷ tokens) g ≡ cond b (opening_of row ∷ openings_at tokens g) (openings_at tokens g)
openings_if g row tokens b e =
    openings_cons g row tokens ∙
    ap (λ (c : Bool). cond c (opening_of row ∷ openings_at tokens g) (openings_at tokens g)) e

-- one more token
pub openings_more :
    (g : Trigger) (row : HeldToken) (tokens : List HeldToken) →
    openings_at (tokens ++ row ∷ []) g ≡
    cond (same_trigger row.trigger g) (openings_at tokens g ++ opening_of row ∷ []) (openings_at tokens g)
openings_more g row [] = openings_cons g row []
openings_more g row (first ∷ tokens) =
    openings_cons g first (tokens ++ row ∷ []) ∙
    by (same_trigger first.trigger g) (same_trigger row.trigger g) (openings_more g row tokens) ∙
    ap (λ (os : List Opening). cond (same_trigger row.trigger g) (os ++ opening_of row ∷ []) os) (sym (openings_cons g first tokens))
  where
    by :
        (b c : Bool) →
        openings_at (tokens ++ row ∷ []) g ≡ cond c (openings_at tokens g ++ opening_of row ∷ []) (openings_at tokens g) →
        cond b (opening_of first ∷ openings_at (tokens ++ row ∷ []) g) (openings_at (tokens ++ row ∷ []) g) ≡
        cond c (cond b (opening_of first ∷ openings_at tokens g) (openings_at tokens g) ++ opening_of row ∷ []) (cond b (opening_of first ∷ openings_at tokens g) (openings_at tokens g))
    by true true later = ap (λ (os : List Opening). opening_of first ∷ os) later
    by true false later = ap (λ (os : List Opening). opening_of first ∷ os) later
    by false c later = later

-- a key more
pub openings_joined :
    (g : Trigger) (token key : ℕ) (tokens : List HeldToken) → openings_at (with_key token key tokens) g ≡ openings_at tokens g
openings_joined g token key [] = refl
openings_joined g token key (row ∷ tokens) = by (row.token == token) (openings_joined g token key tokens)
  where
    by :
        (b : Bool) → openings_at (with_key token key tokens) g ≡ openings_at tokens g →
        openings_at (cond b (joined_key row key ∷ tokens) (row ∷ with_key token key tokens)) g ≡ openings_at (row ∷ tokens) g
    by true later = openings_cons g (joined_key row key) tokens ∙ sym (openings_cons g row tokens)
    by false later =
        openings_cons g row (with_key token key tokens) ∙
        ap (λ (os : List Opening). cond (same_trigger row.trigger g) (opening_of row ∷ os) os) later ∙
        sym (openings_cons g row tokens)

-- a token less
openings_but :
    (g : Trigger) (token : ℕ) (tokens : List HeldToken) → openings_at (without_held token tokens) g ≡ but token (openings_at tokens g)
openings_but g token [] = refl
openings_but g token (row ∷ tokens) =
    by (row.token == token) refl (same_trigger row.trigger g) refl (openings_but g token tokens) ∙
    ap (but token) (sym (openings_cons g row tokens))
  where
    by :
        (b : Bool) → (row.token == token) ≡ b → (c : Bool) → same_trigger row.trigger g ≡ c →
        openings_at (without_held token tokens) g ≡ but token (openings_at tokens g) →
        openings_at (cond (not b) (row ∷ without_held token tokens) (without_held token tokens)) g ≡
        but token (cond c (opening_of row ∷ openings_at tokens g) (openings_at tokens g))
    by true e true f later = later ∙ (rw e refl)
    by true e false f later = later
    by false e true f later =
        openings_if g row (without_held token tokens) true f ∙
        ap (λ (os : List Opening). opening_of row ∷ os) later ∙ (rw e refl)
    by false e false f later = openings_if g row (without_held token tokens) false f ∙ later

-- the tokens of another trigger stay
openings_stay :
    (g : Trigger) (token low : ℕ) (its : HeldToken) (tokens : List HeldToken) → RiseBy (λ row. row.token) low tokens →
    held_of tokens token ≡ Some its → same_trigger its.trigger g ≡ false →
    openings_at (without_held token tokens) g ≡ openings_at tokens g
openings_stay g token low its [] rises there apart = refl
openings_stay g token low its (row ∷ tokens) rises there apart =
    by (row.token == token) refl there (openings_stay g token (row.token + 1) its tokens rises.1)
  where
    by :
        (b : Bool) → (row.token == token) ≡ b → cond b (Some row) (held_of tokens token) ≡ Some its →
        (held_of tokens token ≡ Some its → same_trigger its.trigger g ≡ false → openings_at (without_held token tokens) g ≡ openings_at tokens g) →
        openings_at (cond (not b) (row ∷ without_held token tokens) (without_held token tokens)) g ≡ openings_at (row ∷ tokens) g
    by true e found later =
        let is : row ≡ its = cc in
        let none : held_of tokens token ≡ None = absent (λ (r : HeldToken). r.token) token (row.token + 1) tokens rises.1 (grind (arith, nat_tests, e)) in
        let other : same_trigger row.trigger g ≡ false = ap (λ (r : HeldToken). same_trigger r.trigger g) is ∙ apart in
        ap (λ (rows : List HeldToken). openings_at rows g) (all_kept (λ (r : HeldToken). r.token == token) tokens none) ∙
        sym (openings_cons g row tokens ∙ ap (λ (b : Bool). cond b (opening_of row ∷ openings_at tokens g) (openings_at tokens g)) other)
    by false e found later =
        openings_cons g row (without_held token tokens) ∙
        ap (λ (os : List Opening). cond (same_trigger row.trigger g) (opening_of row ∷ os) os) (later found apart) ∙
        sym (openings_cons g row tokens)

pub openings_taken :
    (g : Trigger) (token : ℕ) (its : HeldToken) (tokens : List HeldToken) → RiseBy (λ row. row.token) 0 tokens →
    held_of tokens token ≡ Some its →
    openings_at (without_held token tokens) g ≡
    cond (same_trigger its.trigger g) (but token (openings_at tokens g)) (openings_at tokens g)
openings_taken g token its tokens rises there = by (same_trigger its.trigger g) refl
  where
    by :
        (b : Bool) → same_trigger its.trigger g ≡ b →
        openings_at (without_held token tokens) g ≡ cond b (but token (openings_at tokens g)) (openings_at tokens g)
    by true e = openings_but g token tokens
    by false e = openings_stay g token 0 its tokens rises there e

-- the tokens of a file system go
pub openings_off :
    (g : Trigger) (fs : ℕ) (tokens : List HeldToken) →
    openings_at (filter (λ row. not (row.trigger.fs == fs)) tokens) g ≡ cond (g.fs == fs) [] (openings_at tokens g)
openings_off g fs [] = sym (none_either_way (g.fs == fs))
openings_off g fs (row ∷ tokens) =
    by (row.trigger.fs == fs) refl (same_trigger row.trigger g) refl (openings_off g fs tokens) ∙
    ap (λ (os : List Opening). cond (g.fs == fs) [] os) (sym (openings_cons g row tokens))
  where
    others : List HeldToken
    others = filter (λ r. not (r.trigger.fs == fs)) tokens

    its : (b : Bool) → (row.trigger.fs == fs) ≡ b → same_trigger row.trigger g ≡ true → (g.fs == fs) ≡ b
    its b e same = sym (ap (λ (t : Trigger). t.fs == fs) (equal_by_same_trigger row.trigger g same)) ∙ e

    by :
        (b : Bool) → (row.trigger.fs == fs) ≡ b → (c : Bool) → same_trigger row.trigger g ≡ c →
        openings_at others g ≡ cond (g.fs == fs) [] (openings_at tokens g) →
        openings_at (cond (not b) (row ∷ others) others) g ≡
        cond (g.fs == fs) [] (cond c (opening_of row ∷ openings_at tokens g) (openings_at tokens g))
    by true e true f later = later ∙ (rw (its true e f) refl)
    by true e false f later = later
    by false e true f later =
        openings_if g row others true f ∙
        ap (λ (os : List Opening). opening_of row ∷ os) (later ∙ ap (λ (b : Bool). cond b [] (openings_at tokens g)) (its false e f)) ∙
        sym (ap (λ (b : Bool). cond b [] (opening_of row ∷ openings_at tokens g)) (its false e f))
    by false e false f later = openings_if g row others false f ∙ later

-- the first of a kind is the token that is open
pub first_opening :
    (kind : TokenKind) (g : Trigger) (tokens : List HeldToken) →
    option_map (λ (o : Opening). o.token) (find (λ o. same_kind o.kind kind) (openings_at tokens g)) ≡ held_open_on tokens kind g
first_opening kind g [] = refl
first_opening kind g (row ∷ tokens) =
    ap (λ (os : List Opening). option_map (λ (o : Opening). o.token) (find (λ o. same_kind o.kind kind) os)) (openings_cons g row tokens) ∙
    by (same_trigger row.trigger g) (same_kind row.kind kind) refl (first_opening kind g tokens)
  where
    by :
        (b c : Bool) → same_kind row.kind kind ≡ c →
        option_map (λ (o : Opening). o.token) (find (λ o. same_kind o.kind kind) (openings_at tokens g)) ≡ held_open_on tokens kind g →
        option_map (λ (o : Opening). o.token) (find (λ o. same_kind o.kind kind) (cond b (opening_of row ∷ openings_at tokens g) (openings_at tokens g))) ≡
        option_map (λ (r : HeldToken). r.token) (cond (b && same_kind row.kind kind) (Some row) (find (λ r. is_held_on kind g r) tokens))
    by true true e later = rw e refl
    by true false e later = rw e later
    by false c e later = later
