-- Sections in an index by their names.
use Rattle.std.proofs.Common.{◌≡◌, ◌+◌, ◌<◌, ℕ, Bool, true, false, cond, Bor, List, [], ◌∷◌, ◌++◌, length, take, get_or, Option, Some, None, is_some, bytes_eq, refl, sym, ap, subst, ◌∙◌, true≢false, ⊎_elim}
use Rattle.std.specs.Cmp.Lexicographic.{bytes_decides}
use Rattle.std.specs.Option.{option_or, option_copied}
use Rattle.std.proofs.lemmas.Bool.{cases_Bool}
use Rattle.std.proofs.lemmas.List.{take_more}
use Rattle.std.proofs.lemmas.List.Folds.{find-append}
use Rattle.am_script.specs.{Section, is_named, section_for}

-- ---- what the index finds

pub copied_none : (found : Option (Bor Section)) → is_some found ≡ false → option_copied found ≡ None
copied_none None none = refl
copied_none (Some section) none = absurd (true≢false none)

pub copied_there : (found : Option (Bor Section)) → is_some found ≡ true → is_some (option_copied found) ≡ true
copied_there None there = absurd (true≢false (sym there))
copied_there (Some section) there = refl

pub copied_choice : (b : Bool) (here : Bor Section) (found : Option (Bor Section)) → option_copied (cond b (Some here) found) ≡ cond b (Some here.now) (option_copied found)
copied_choice true here found = refl
copied_choice false here found = refl

-- ---- one section more

or_none : (found : Option Section) → option_or found None ≡ found
or_none None = refl
or_none (Some section) = refl

-- a section of this name is there already
or_there : (found other : Option Section) → is_some found ≡ true → option_or found other ≡ found
or_there None other there = absurd (true≢false (sym there))
or_there (Some section) other there = refl

abbrev if_named : List ℕ → Section → Option Section
if_named name section = cond (is_named name section.name) (Some section) None

-- among one section more, the first of a name is the first among those before, else that one
more : (sections : List Section) (i : ℕ) (section : Section) → i < length sections → section ≡ get_or sections i section → (name : List ℕ) →
    section_for (take (i + 1) sections) name ≡ option_or (section_for (take i sections) name) (if_named name section)
more sections i section h e name =
    ap (λ (front : List Section). section_for front name) (take_more sections i section h ∙ ap (λ (s : Section). take i sections ++ s ∷ []) (sym e))
    ∙ find-append (λ (s : Section). is_named name s.name) (take i sections) (section ∷ [])

module _ (sections : List Section) (i : ℕ) (section : Section) (h : i < length sections) (e : section ≡ get_or sections i section) where
  -- a section without a name
  pub more_nameless : section.name ≡ None → (name : List ℕ) → section_for (take i sections) name ≡ section_for (take (i + 1) sections) name
  more_nameless none name =
      sym (more sections i section h e name
      ∙ ap (λ (n : Option (List ℕ)). option_or (section_for (take i sections) name) (cond (is_named name n) (Some section) None)) none
      ∙ or_none (section_for (take i sections) name))

  module _ (own : List ℕ) (named : section.name ≡ Some own) where
    -- one more that is or isn't of this name
    by_name : (name : List ℕ) → section_for (take (i + 1) sections) name ≡ option_or (section_for (take i sections) name) (cond (bytes_eq own name) (Some section) None)
    by_name name = more sections i section h e name
        ∙ ap (λ (n : Option (List ℕ)). option_or (section_for (take i sections) name) (cond (is_named name n) (Some section) None)) named

    -- another of its name stands before it
    pub more_there : is_some (section_for (take i sections) own) ≡ true → (name : List ℕ) → section_for (take i sections) name ≡ section_for (take (i + 1) sections) name
    more_there there name = sym (by_name name ∙ ⊎_elim same other (cases_Bool (bytes_eq own name)))
      where
        same : bytes_eq own name ≡ true → option_or (section_for (take i sections) name) (cond (bytes_eq own name) (Some section) None) ≡ section_for (take i sections) name
        same t = or_there _ _ (subst (λ (n : List ℕ). is_some (section_for (take i sections) n) ≡ true) ((bytes_decides own name).0 t) there)

        other : bytes_eq own name ≡ false → option_or (section_for (take i sections) name) (cond (bytes_eq own name) (Some section) None) ≡ section_for (take i sections) name
        other f = rw f (or_none (section_for (take i sections) name))

    -- it is the first of its name
    pub more_new : section_for (take i sections) own ≡ None → (name : List ℕ) → cond (bytes_eq own name) (Some section) (section_for (take i sections) name) ≡ section_for (take (i + 1) sections) name
    more_new none name = ⊎_elim same other (cases_Bool (bytes_eq own name)) ∙ sym (by_name name)
      where
        same : bytes_eq own name ≡ true → cond (bytes_eq own name) (Some section) (section_for (take i sections) name) ≡ option_or (section_for (take i sections) name) (cond (bytes_eq own name) (Some section) None)
        same t = rw t (sym (ap (λ (found : Option Section). option_or found (Some section)) (subst (λ (n : List ℕ). section_for (take i sections) n ≡ None) ((bytes_decides own name).0 t) none)))

        other : bytes_eq own name ≡ false → cond (bytes_eq own name) (Some section) (section_for (take i sections) name) ≡ option_or (section_for (take i sections) name) (cond (bytes_eq own name) (Some section) None)
        other f = rw f (sym (or_none (section_for (take i sections) name)))
