-- What a misfit says of lines that are read by a table of what stands behind their first word.
use Rattle.std.proofs.Common.{◌≡◌, ℕ, suc, ◌<◌, Bool, true, false, List, [], ◌∷◌, ◌++◌, length, take, Option, Some, None, refl, sym, ap, subst, arith, ◌∙◌, add-one}
use Rattle.std.specs.Prelude.{is_some, is_none}
use Rattle.std.specs.List.{list_all}
use Rattle.std.proofs.lemmas.List.{append_assoc}
use Rattle.am_diagnosis.specs.declared.expected.Expected.{Expected}
use Rattle.am_diagnosis.specs.declared.misfit.Misfit.{Misfit}
use Rattle.am_diagnosis.specs.Fits.{fits, may_end}
use Rattle.am_diagnosis.specs.Misfits.{Words, IsFirstMisfit, TellsWhatFits, ReadsJust, TellsMisfits, misfit_at, misfit_of, misfit_by, misfit_in}
use Rattle.am_diagnosis.proofs.MisfitLemmas.{completed, Stops, stops, is_met}

-- each of the parameters can be met
abbrev pub AreMet : Option (List Expected) → Type 0
AreMet None = Unit {0}
AreMet (Some parameters) = list_all is_met parameters ≡ true

-- what a table keeps, at whose words this is expected
pub record IsTable (first : Expected) (table : List ℕ → Option (List Expected)) : Type 0 where
  pub fits_rows : (word : List ℕ) → fits first word ≡ is_some (table word)
  pub goes_on : may_end first ≡ false
  pub met : (word : List ℕ) → AreMet (table word)
  pub some : Words
  pub some_read : misfit_in first table some ≡ None

-- a line with these words is read
abbrev IsRead : Expected → (List ℕ → Option (List Expected)) → Words → Type 0
IsRead first table words = misfit_in first table words ≡ None

-- what is told of the words at this place
record IsToldAt (Good : Words → Type 0) (words : Words) (place : ℕ) (expected : Expected) : Type 0 where
  first : IsFirstMisfit Good words place
  told : TellsWhatFits Good words place expected

-- ---- the first word

begun : (first : Expected) (rows : Option (List Expected)) → AreMet rows → is_some rows ≡ true → (rest : Words) × (misfit_by first rows rest ≡ None)
begun first None met h = absurd cc
begun first (Some parameters) met h = let c = completed 1 parameters met in (c.words, c.complete)

begins : (first : Expected) (rows : Option (List Expected)) (rest : Words) → misfit_by first rows rest ≡ None → is_some rows ≡ true
begins first None rest e = absurd cc
begins first (Some parameters) rest e = refl

at_first : (first : Expected) (table : List ℕ → Option (List Expected)) (t : IsTable first table) (words : Words) → (0 < length words → (rest : Words) → IsRead first table (take 1 words ++ rest) → ⊥) → (IsRead first table words → ⊥) → IsToldAt (IsRead first table) words 0 first
at_first first table t words bad is_bad = record {
  first = record {
    within = omega arith;
    good_before = (t.some, t.some_read);
    bad_behind = λ h b. bad h b.0 b.1;
    is_bad = is_bad;
  };
  told = record {
    fitting = λ word. (
      λ f. begun first (table word) (t.met word) (sym (t.fits_rows word) ∙ f),
      λ b. t.fits_rows word ∙ begins first (table word) b.0 b.1,
    );
    ending = (λ e. absurd (let no = t.goes_on in cc), λ e. absurd cc);
  };
}

-- ---- a word behind it

behind_first : (first : Expected) (table : List ℕ → Option (List Expected)) (word : List ℕ) (words : Words) (parameters : List Expected) (m : Misfit) → table word ≡ Some parameters → misfit_of 1 parameters words ≡ Some m → (s : Stops 1 parameters words m) → IsToldAt (IsRead first table) (word ∷ words) (suc s.behind) m.expected
behind_first first table word words parameters m is e s = record {
  first = record {
    within = omega arith;
    good_before = (s.rest, rw is s.good);
    bad_behind = λ h b. s.bad (omega arith) b.0 (rw is at (rw add-one at b.1));
    is_bad = λ g. let all = rw is at g in cc;
  };
  told = record {
    fitting = λ w. (
      λ f. let d = s.makes w f in (d.0, rw (is, append_assoc (take s.behind words) (w ∷ []) d.0) d.1),
      λ b. s.meets w b.0 (let read = rw is at b.1 in rw (append_assoc (take s.behind words) (w ∷ []) b.0) at read),
    );
    ending = (λ h. rw is (s.ends h), λ h. s.ended (rw is at h));
  };
}

-- ---- any line

told_read : (first : Expected) (table : List ℕ → Option (List Expected)) → IsTable first table → (words : Words) (m : Misfit) → misfit_in first table words ≡ Some m → IsToldAt (IsRead first table) words m.place m.expected
told_read first table t [] m e =
    let is : misfit_at 0 first ≡ m = cc in
    subst (λ (m : Misfit). IsToldAt (IsRead first table) [] m.place m.expected) is
    (at_first first table t [] (λ h rest g. omega arith) (λ g. absurd cc))
told_read first table t (word ∷ words) m e = go (table word) refl
  where
    go : (rows : Option (List Expected)) → table word ≡ rows → IsToldAt (IsRead first table) (word ∷ words) m.place m.expected
    go None is =
        let e2 = rw is at e in
        let same : misfit_at 0 first ≡ m = cc in
        subst (λ (m : Misfit). IsToldAt (IsRead first table) (word ∷ words) m.place m.expected) same
        (at_first first table t (word ∷ words) (λ h rest g. let no = rw is at g in cc) (λ g. let no = rw is at g in cc))
    go (Some parameters) is =
        let e2 = rw is at e in
        let s = stops 1 parameters words m (subst AreMet is (t.met word)) e2 in
        let at : suc s.behind ≡ m.place = omega arith in
        subst (λ (place : ℕ). IsToldAt (IsRead first table) (word ∷ words) place m.expected) at
        (behind_first first table word words parameters m is e2 s)

-- ---- words that are good by another word

-- what is told of words that are read is told of those that are good, where these are the same
other_word : (Good Read : Words → Type 0) → ((words : Words) → Read words → Good words) → ((words : Words) → Good words → Read words) → (words : Words) (place : ℕ) (expected : Expected) → IsToldAt Read words place expected → IsToldAt Good words place expected
other_word Good Read good read words place expected x = record {
  first = record {
    within = x.first.within;
    good_before = (x.first.good_before.0, good _ x.first.good_before.1);
    bad_behind = λ h b. x.first.bad_behind h (b.0, read _ b.1);
    is_bad = λ g. x.first.is_bad (read _ g);
  };
  told = record {
    fitting = λ word. (
      λ f. let b = (x.told.fitting word).0 f in (b.0, good _ b.1),
      λ b. (x.told.fitting word).1 (b.0, read _ b.1),
    );
    ending = (λ h. good _ (x.told.ending.0 h), λ g. x.told.ending.1 (read _ g));
  };
}

pub lines_told : (Good : Words → Type 0) (first : Expected) (table : List ℕ → Option (List Expected)) → IsTable first table → ReadsJust Good (misfit_in first table) → TellsMisfits Good (misfit_in first table) 0
lines_told Good first table t just words m e =
    let x = other_word Good (IsRead first table) (λ words. (just words).0) (λ words. (just words).1) words m.place m.expected (told_read first table t words m e) in
    record { behind = m.place; at = omega arith; first = x.first; told = x.told }

words_told : (from : ℕ) (parameters : List Expected) (words : Words) (m : Misfit) → misfit_of from parameters words ≡ Some m → (s : Stops from parameters words m) → IsToldAt (λ words. misfit_of from parameters words ≡ None) words s.behind m.expected
words_told from parameters words m e s = record {
  first = record {
    within = s.within;
    good_before = (s.rest, s.good);
    bad_behind = λ h b. s.bad h b.0 (rw add-one at b.1);
    is_bad = λ g. cc;
  };
  told = record {
    fitting = λ w. (
      λ f. let d = s.makes w f in (d.0, rw (append_assoc (take s.behind words) (w ∷ []) d.0) d.1),
      λ b. s.meets w b.0 (rw (append_assoc (take s.behind words) (w ∷ []) b.0) at b.1),
    );
    ending = (s.ends, s.ended);
  };
}

pub parameters_told : (Good : Words → Type 0) (from : ℕ) (parameters : List Expected) → list_all is_met parameters ≡ true → ReadsJust Good (misfit_of from parameters) → TellsMisfits Good (misfit_of from parameters) from
parameters_told Good from parameters met just words m e =
    let s = stops from parameters words m met e in
    let x = other_word Good (λ words. misfit_of from parameters words ≡ None) (λ words. (just words).0) (λ words. (just words).1) words s.behind m.expected (words_told from parameters words m e s) in
    record { behind = s.behind; at = s.at; first = x.first; told = x.told }

-- ---- tests that are one

none_of : {A : Type 0} (o : Option A) → is_none o ≡ true → o ≡ None
none_of None h = refl
none_of (Some x) h = absurd cc

pub just_by_tests : (good : Words → Bool) (found : Words → Option Misfit) → ((words : Words) → good words ≡ is_none (found words)) → ReadsJust (λ words. good words ≡ true) found
just_by_tests good found same words = (λ e. same words ∙ ap is_none e, λ g. none_of (found words) (sym (same words) ∙ g))
