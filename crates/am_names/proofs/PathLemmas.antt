-- A canonical text and its names.
use Rattle.std.proofs.Common.{◌≡◌, ℕ, ◌+◌, ◌≤◌, Bool, true, false, Decides, not, ◌==◌, List, [], ◌∷◌, ◌++◌, length, take, drop, refl, sym, ap, subst, ◌∙◌, append_assoc, arith}
use Rattle.std.specs.Prelude.{IsTrue}
use Rattle.std.specs.List.{list_all, filter, position_or_len}
use Rattle.std.specs.Str.{bytes_eq}
use Rattle.std.proofs.lemmas.Bool.Decides.{nat_tests, Decides-eqb, same_from_decides}
use Rattle.std.proofs.lemmas.Slice.Eq.{slice_eq-Decides}
use Rattle.std.proofs.lemmas.List.{append-nil, length-append, take_at, drop_at}
use Rattle.std.proofs.lemmas.List.Splits.{slice_split-cons_no}
use Rattle.am_names.specs.{is_name, is_name_byte, is_slash, parts_of, text_of, names_of, same_names, IsCanonical}
use Rattle.am_names.proofs.Basics.{left_of_and, right_of_and, and_of_both}

-- the bytes of a name
pub bytes_of_name : (name : List ℕ) → is_name name ≡ true → list_all is_name_byte name ≡ true
bytes_of_name name h = right_of_and _ _ h

no_slash : (b : ℕ) → is_name_byte b ≡ true → is_slash b ≡ false
no_slash b h = grind (arith, nat_tests)

split_name : (name ys : List ℕ) → list_all is_name_byte name ≡ true → parts_of (name ++ 47 ∷ ys) ≡ name ∷ parts_of ys
split_name [] ys h = refl
split_name (b ∷ name) ys h =
    let e : is_slash b ≡ false = no_slash b (left_of_and _ _ h) in
    let others : list_all is_name_byte name ≡ true = right_of_and _ _ h in
    rw (slice_split-cons_no is_slash b (name ++ 47 ∷ ys) e, split_name name ys others) refl

split_last : (name : List ℕ) → list_all is_name_byte name ≡ true → parts_of name ≡ name ∷ []
split_last [] h = refl
split_last (b ∷ name) h =
    let e : is_slash b ≡ false = no_slash b (left_of_and _ _ h) in
    let others : list_all is_name_byte name ≡ true = right_of_and _ _ h in
    rw (slice_split-cons_no is_slash b name e, split_last name others) refl

parts_of_names : (name : List ℕ) (names : List (List ℕ)) → is_name name ≡ true → list_all is_name names ≡ true → parts_of (name ++ text_of names) ≡ name ∷ names
parts_of_names name [] n h = rw (append-nil name) (split_last name (bytes_of_name name n))
parts_of_names name (other ∷ names) n h = split_name name (other ++ text_of names) (bytes_of_name name n) ∙ ap (λ (parts : List (List ℕ)). name ∷ parts) (parts_of_names other names (left_of_and _ _ h) (right_of_and _ _ h))

-- a name is not empty
pub name_long : (name : List ℕ) → is_name name ≡ true → not (length name == 0) ≡ true
name_long name h = left_of_and _ _ (left_of_and _ _ (left_of_and _ _ h))

all_long : (names : List (List ℕ)) → list_all is_name names ≡ true → filter (λ part. not (length part == 0)) names ≡ names
all_long [] h = refl
all_long (name ∷ names) h = rw (name_long name (left_of_and _ _ h)) (ap (λ (others : List (List ℕ)). name ∷ others) (all_long names (right_of_and _ _ h)))

-- the names of a canonical text are those that it spells
pub names_back : (names : List (List ℕ)) → list_all is_name names ≡ true → names_of (text_of names) ≡ names
names_back [] h = refl
names_back (name ∷ names) h =
    ap (filter (λ part. not (length part == 0))) (ap (λ (parts : List (List ℕ)). [] ∷ parts) (parts_of_names name names (left_of_and _ _ h) (right_of_and _ _ h))) ∙ all_long (name ∷ names) h

pub canonical_text : (names : List (List ℕ)) → list_all is_name names ≡ true → IsCanonical (text_of names)
canonical_text names h = record {
  spelled = ap text_of (sym (names_back names h));
  named = subst (λ (ns : List (List ℕ)). list_all is_name ns ≡ true) (sym (names_back names h)) h;
}

pub text_of-push : (names : List (List ℕ)) (name : List ℕ) → text_of (names ++ name ∷ []) ≡ text_of names ++ 47 ∷ name
text_of-push [] name = ap (λ (t : List ℕ). 47 ∷ t) (append-nil name)
text_of-push (first ∷ names) name = ap (λ (t : List ℕ). 47 ∷ (first ++ t)) (text_of-push names name) ∙ ap (λ (t : List ℕ). 47 ∷ t) (sym (append_assoc first (text_of names) (47 ∷ name)))

all_push : (names : List (List ℕ)) (name : List ℕ) → list_all is_name names ≡ true → is_name name ≡ true → list_all is_name (names ++ name ∷ []) ≡ true
all_push [] name h n = rw n refl
all_push (first ∷ names) name h n =
    let one : is_name first ≡ true = left_of_and _ _ h in
    rw one (all_push names name (right_of_and _ _ h) n)

-- a name behind a canonical text
pub record Pushed (text name : List ℕ) : Type 0 where
  pub names : names_of (text ++ 47 ∷ name) ≡ names_of text ++ name ∷ []
  pub canonical : IsCanonical (text ++ 47 ∷ name)

pub pushed : (text name : List ℕ) → IsCanonical text → is_name name ≡ true → Pushed text name
pushed text name h n =
    let more : list_all is_name (names_of text ++ name ∷ []) ≡ true = all_push (names_of text) name h.named n in
    let e : text_of (names_of text ++ name ∷ []) ≡ text ++ 47 ∷ name = text_of-push (names_of text) name ∙ ap (λ (t : List ℕ). t ++ 47 ∷ name) (sym h.spelled) in
    record {
      names = subst (λ (t : List ℕ). names_of t ≡ names_of text ++ name ∷ []) e (names_back _ more);
      canonical = subst IsCanonical e (canonical_text _ more);
    }

name_ends : (name : List ℕ) (names : List (List ℕ)) → list_all is_name_byte name ≡ true → position_or_len is_slash (name ++ text_of names) ≡ length name
name_ends [] [] h = refl
name_ends [] (other ∷ names) h = refl
name_ends (b ∷ name) names h = rw (no_slash b (left_of_and _ _ h)) (ap (λ (n : ℕ). 1 + n) (name_ends name names (right_of_and _ _ h)) ∙ omega arith)

-- the first name of a text that goes on behind its first slash
pub record CutsFirst (text below : List ℕ) (len : ℕ) : Type 0 where
  pub fits : len ≤ length below
  pub named : IsTrue (is_name (take len below))
  pub names : names_of text ≡ take len below ∷ names_of (drop len below)
  pub rest : IsCanonical (drop len below)

cuts_at : (text below : List ℕ) (slash len : ℕ) (names : List (List ℕ)) → text ≡ slash ∷ below → len ≡ position_or_len is_slash below → names_of text ≡ names → text ≡ text_of names → list_all is_name names ≡ true → CutsFirst text below len
cuts_at text below slash len [] e p same spelled named = absurd cc
cuts_at text below slash len (name ∷ names) e p same spelled named =
    let b : below ≡ name ++ text_of names = cc in
    let n : is_name name ≡ true = left_of_and _ _ named in
    let ends : len ≡ length name = p ∙ ap (position_or_len is_slash) b ∙ name_ends name names (bytes_of_name name n) in
    let front : take len below ≡ name = ap (λ (t : List ℕ). take len t) b ∙ take_at name (text_of names) len (sym ends) in
    let back : drop len below ≡ text_of names = ap (λ (t : List ℕ). drop len t) b ∙ drop_at name (text_of names) len (sym ends) in
    let others : list_all is_name names ≡ true = right_of_and _ _ named in
    record {
      fits = omega (arith, ap length b, length-append name (text_of names));
      named = subst (λ (t : List ℕ). IsTrue (is_name t)) (sym front) n;
      names = same ∙ rw (front, back, names_back names others) refl;
      rest = subst IsCanonical (sym back) (canonical_text names others);
    }

pub cuts_first : (text below : List ℕ) (slash len : ℕ) → IsCanonical text → text ≡ slash ∷ below → len ≡ position_or_len is_slash below → CutsFirst text below len
cuts_first text below slash len h e p = cuts_at text below slash len (names_of text) e p refl h.spelled h.named

cons_equal : (x y : List ℕ) (xs ys : List (List ℕ)) → x ≡ y → xs ≡ ys → ◌≡◌ {A = List (List ℕ)} (x ∷ xs) (y ∷ ys)
cons_equal x y xs ys h g = cc

head_of_cons : (x y : List ℕ) (xs ys : List (List ℕ)) → ◌≡◌ {A = List (List ℕ)} (x ∷ xs) (y ∷ ys) → x ≡ y
head_of_cons x y xs ys h = cc

tail_of_cons : (x y : List ℕ) (xs ys : List (List ℕ)) → ◌≡◌ {A = List (List ℕ)} (x ∷ xs) (y ∷ ys) → xs ≡ ys
tail_of_cons x y xs ys h = cc

-- the test of names tells whether they are the same
pub same_names-Decides : (xs ys : List (List ℕ)) → Decides (same_names xs ys) (xs ≡ ys)
same_names-Decides [] [] = (λ h. refl, λ h. refl)
same_names-Decides [] (y ∷ ys) = (λ h. absurd cc, λ h. absurd cc)
same_names-Decides (x ∷ xs) [] = (λ h. absurd cc, λ h. absurd cc)
same_names-Decides (x ∷ xs) (y ∷ ys) =
    let first : Decides (bytes_eq x y) (x ≡ y) = slice_eq-Decides Decides-eqb x y (bytes_eq x y) refl in
    let others : Decides (same_names xs ys) (xs ≡ ys) = same_names-Decides xs ys in
    (λ h. cons_equal x y xs ys (first.0 (left_of_and _ _ h)) (others.0 (right_of_and _ _ h)), λ h. and_of_both _ _ (first.1 (head_of_cons x y xs ys h)) (others.1 (tail_of_cons x y xs ys h)))

-- two canonical texts are the same bytes where they are the same names
pub texts_tell : (text mine : List ℕ) (names : List (List ℕ)) (r : Bool) → IsCanonical text → IsCanonical mine → names_of mine ≡ names → r ≡ bytes_eq text mine → r ≡ same_names names (names_of text)
texts_tell text mine names r h m e b =
    let read : Decides r (text ≡ mine) = slice_eq-Decides Decides-eqb text mine r b in
    let told : Decides r (names ≡ names_of text) = (
      λ is_true. sym e ∙ ap names_of (sym (read.0 is_true)),
      λ same. read.1 (h.spelled ∙ ap text_of (sym (e ∙ same)) ∙ sym m.spelled),
    ) in
    same_from_decides r (same_names names (names_of text)) told (same_names-Decides names (names_of text))
