-- Questions are answered one after another.
use Rattle.std.proofs.Common.{◌≡◌, ◌++◌, ◌∷◌, ℕ, List, [], refl, sym, ap, subst, ◌∙◌}
use Rattle.std.proofs.lemmas.List.{append_assoc, append-nil}
use Rattle.am_explore.specs.{Seen}
use Rattle.am_scenes.specs.{Asked, Told}
use Rattle.am_findings.specs.{AreFound, Part, Verdict, answers_text, finding_text, first_of, joined, verdict_of, verdict_on}
use Rattle.am_findings.specs.Explored.{IsAnswered, WereAnswered}
use Rattle.am_findings.specs.declared.verdict.Verdict.TheVariants.{AsAsked, NotAsAsked, NotAllSeen}

-- ---- verdicts

pub joined_assoc : (a b c : Verdict) → joined (joined a b) c ≡ joined a (joined b c)
joined_assoc AsAsked b c = refl
joined_assoc NotAsAsked b c = refl
joined_assoc NotAllSeen AsAsked c = refl
joined_assoc NotAllSeen NotAsAsked c = refl
joined_assoc NotAllSeen NotAllSeen AsAsked = refl
joined_assoc NotAllSeen NotAllSeen NotAsAsked = refl
joined_assoc NotAllSeen NotAllSeen NotAllSeen = refl

pub joined_last : (a : Verdict) → joined a AsAsked ≡ a
joined_last AsAsked = refl
joined_last NotAsAsked = refl
joined_last NotAllSeen = refl

-- ---- what is left

-- all questions were answered, with what is found of those that are left
pub record AllWith (told : Told) (part : Part) (most : ℕ) (left all : List Asked) (old now : List ℕ) (verdict : Verdict)
    (rest : List Seen) : Type 0 where
  pub seen : List Seen
  pub found : AreFound told part most all seen
  pub verdict_is : verdict_of all seen ≡ joined verdict (verdict_of left rest)
  pub text_is : old ++ answers_text (first_of part) all seen ≡ now ++ answers_text (first_of part) left rest

-- these are left, and the others were answered
abbrev pub AreLeft : Told → Part → ℕ → List Asked → List Asked → List ℕ → List ℕ → Verdict → Type 0
AreLeft told part most left all old now verdict =
    (rest : List Seen) → AreFound told part most left rest → AllWith told part most left all old now verdict rest

pub all_left : (told : Told) (part : Part) (most : ℕ) (all : List Asked) (old : List ℕ) → AreLeft told part most all all old old AsAsked
all_left told part most all old rest found = record { seen = rest; found = found; verdict_is = refl; text_is = refl }

step_left : (told : Told) (part : Part) (most : ℕ) (asked : Asked) (more all : List Asked) (old now next : List ℕ)
    (verdict one : Verdict) →
    AreLeft told part most (asked ∷ more) all old now verdict → IsAnswered told part most asked now next one
    → AreLeft told part most more all old next (joined verdict one)
step_left told part most asked more all old now next verdict one left is rest found =
    let all_with = left (is.seen ∷ rest) (is.answers, found) in
    record {
      seen = all_with.seen;
      found = all_with.found;
      verdict_is =
          all_with.verdict_is
          ∙ sym (joined_assoc verdict (verdict_on asked.claim is.seen.found) (verdict_of more rest))
          ∙ ap (λ (v : Verdict). joined (joined verdict v) (verdict_of more rest)) (sym is.verdict_is);
      text_is =
          all_with.text_is
          ∙ sym (append_assoc now (finding_text (first_of part) asked is.seen.found) (answers_text (first_of part) more rest))
          ∙ ap (λ (t : List ℕ). t ++ answers_text (first_of part) more rest) (sym is.text_is);
    }

-- one more was answered
pub one_more : (told : Told) (part : Part) (most : ℕ) (asked : Asked) (left more all : List Asked) (old now next : List ℕ)
    (verdict one : Verdict) → left ≡ asked ∷ more →
    AreLeft told part most left all old now verdict → IsAnswered told part most asked now next one
    → AreLeft told part most more all old next (joined verdict one)
one_more told part most asked left more all old now next verdict one e are is =
    step_left told part most asked more all old now next verdict one
    (subst (λ (l : List Asked). AreLeft told part most l all old now verdict) e are) is

-- none is left
pub none_left : (told : Told) (part : Part) (most : ℕ) (left all : List Asked) (old now : List ℕ) (verdict : Verdict) → left ≡ []
    → AreLeft told part most left all old now verdict → WereAnswered told part most all old now verdict
none_left told part most left all old now verdict e are =
    let all_with = subst (λ (l : List Asked). AreLeft told part most l all old now verdict) e are [] tt in
    record {
      seen = all_with.seen;
      found = all_with.found;
      verdict_is = sym (joined_last verdict) ∙ sym all_with.verdict_is;
      text_is = sym (append-nil now) ∙ sym all_with.text_is;
    }
