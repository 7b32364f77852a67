-- Where the words of a line stand.
use Rattle.std.proofs.Common.{◌≡◌, ◌⊎◌, inl, inr, ℕ, zero, suc, ◌+◌, ◌-◌, ◌<◌, ◌≤◌, Bool, true, false, cond, eqb, ltb, add-one, not, List, [], ◌∷◌, ◌++◌, length, take, drop, Some, None, refl, sym, ap, subst, arith, ◌∙◌}
use Rattle.std.specs.Prelude.{position}
use Rattle.std.specs.List.{slice_split, onto_first, filter, list_all, position_or_len}
use Rattle.std.proofs.lemmas.List.{append-nil, append_assoc, length-append, drop_all}
use Rattle.std.proofs.lemmas.List.Elements.{filter-append}
use Rattle.std.proofs.lemmas.List.Splits.{length-slice_split}
use Rattle.std.proofs.lemmas.Option.{cond_some}
use Rattle.std.proofs.lemmas.Bool.Decides.{nat_tests}
use Rattle.am_names.proofs.Basics.{left_of_and, right_of_and}
use Rattle.am_lines.specs.{words_of, is_blank}
use Rattle.am_diagnosis.specs.Columns.{is_letter, BeginsElse, IsSkipped, EndsBlank, BeginsWord, IsColumn}

-- ---- words on both sides of a blank

onto_first-append : (x : ℕ) (a b : List (List ℕ)) → 0 < length a → onto_first x (a ++ b) ≡ onto_first x a ++ b
onto_first-append x [] b h = absurd (omega arith)
onto_first-append x (part ∷ a) b h = refl

some_parts : (p : ℕ → Bool) (bytes : List ℕ) → 0 < length (slice_split p bytes)
some_parts p bytes = omega (arith, length-slice_split p bytes)

split_at_blank : (p : ℕ → Bool) (a : List ℕ) (x : ℕ) (b : List ℕ) → p x ≡ true → slice_split p (a ++ x ∷ b) ≡ slice_split p a ++ slice_split p b
split_at_blank p [] x b h = rw h refl
split_at_blank p (c ∷ a) x b h = go (p c) refl (split_at_blank p a x b h)
  where
    go : (t : Bool) → p c ≡ t → slice_split p (a ++ x ∷ b) ≡ slice_split p a ++ slice_split p b → slice_split p (c ∷ (a ++ x ∷ b)) ≡ slice_split p (c ∷ a) ++ slice_split p b
    go true e more = rw (e, more) refl
    go false e more = rw (e, more) (onto_first-append c (slice_split p a) (slice_split p b) (some_parts p a))

abbrev some_bytes : List ℕ → Bool
some_bytes word = not (eqb (length word) 0)

words_at_blank : (a : List ℕ) (x : ℕ) (b : List ℕ) → is_blank x ≡ true → words_of (a ++ x ∷ b) ≡ words_of a ++ words_of b
words_at_blank a x b h = ap (filter some_bytes) (split_at_blank is_blank a x b h) ∙ filter-append some_bytes (slice_split is_blank a) (slice_split is_blank b)

words_behind_blank : (x : ℕ) (b : List ℕ) → is_blank x ≡ true → words_of (x ∷ b) ≡ words_of b
words_behind_blank x b h = words_at_blank [] x b h

-- bytes that end in a blank stand before others
words_behind : (front back : List ℕ) → EndsBlank front → words_of (front ++ back) ≡ words_of front ++ words_of back
words_behind front back (inl e) = rw e refl
words_behind front back (inr (init, b, e, h)) =
    rw (e, append_assoc init (b ∷ []) back, words_at_blank init b back h, words_at_blank init b [] h, append-nil (words_of init)) refl

blank_of : (t : Bool) → not t ≡ false → t ≡ true
blank_of true h = refl
blank_of false h = absurd cc

letter_of : (t : Bool) → not t ≡ true → t ≡ false
letter_of true h = absurd cc
letter_of false h = refl

-- bytes that begin with a blank stand behind others
words_before : (front back : List ℕ) → BeginsElse is_letter back → words_of (front ++ back) ≡ words_of front ++ words_of back
words_before front [] h = rw (append-nil front, append-nil (words_of front)) refl
words_before front (b ∷ back) h =
    let blank : is_blank b ≡ true = blank_of (is_blank b) h in
    words_at_blank front b back blank ∙ ap (λ (words : List (List ℕ)). words_of front ++ words) (sym (words_behind_blank b back blank))

words_of_blanks : (blanks : List ℕ) → list_all is_blank blanks ≡ true → words_of blanks ≡ []
words_of_blanks [] h = refl
words_of_blanks (b ∷ blanks) h =
    words_behind_blank b blanks (left_of_and (is_blank b) (list_all is_blank blanks) h)
    ∙ words_of_blanks blanks (right_of_and (is_blank b) (list_all is_blank blanks) h)

one_part : (word : List ℕ) → list_all is_letter word ≡ true → slice_split is_blank word ≡ word ∷ []
one_part [] h = refl
one_part (b ∷ word) h =
    let letter : is_blank b ≡ false = letter_of (is_blank b) (left_of_and (is_letter b) (list_all is_letter word) h) in
    rw (letter, one_part word (right_of_and (is_letter b) (list_all is_letter word) h)) refl

word_alone : (b : ℕ) (word : List ℕ) → list_all is_letter (b ∷ word) ≡ true → words_of (b ∷ word) ≡ (b ∷ word) ∷ []
word_alone b word h =
    let kept : some_bytes (b ∷ word) ≡ true = grind (arith, nat_tests) in
    ap (filter some_bytes) (one_part (b ∷ word) h) ∙ rw kept refl

blanks_end : (blanks : List ℕ) → list_all is_blank blanks ≡ true → EndsBlank blanks
blanks_end [] h = inl refl
blanks_end (b ∷ blanks) h = go (blanks_end blanks (right_of_and (is_blank b) (list_all is_blank blanks) h))
  where
    go : EndsBlank blanks → EndsBlank (b ∷ blanks)
    go (inl e) = inr ([], b, ap (λ (l : List ℕ). b ∷ l) e, left_of_and (is_blank b) (list_all is_blank blanks) h)
    go (inr (init, c, e, k)) = inr (b ∷ init, c, ap (λ (l : List ℕ). b ∷ l) e, k)

ends_behind : (front blanks : List ℕ) → EndsBlank front → EndsBlank blanks → EndsBlank (front ++ blanks)
ends_behind front blanks f (inl e) = rw (e, append-nil front) f
ends_behind front blanks f (inr (init, b, e, h)) = inr (front ++ init, b, ap (λ (l : List ℕ). front ++ l) e ∙ sym (append_assoc front init (b ∷ [])), h)

-- blanks at the end are no words
before_blanks : (front blanks : List ℕ) → list_all is_blank blanks ≡ true → words_of (front ++ blanks) ≡ words_of front
before_blanks front [] h = ap words_of (append-nil front)
before_blanks front (b ∷ blanks) h =
    words_at_blank front b blanks (left_of_and (is_blank b) (list_all is_blank blanks) h)
    ∙ ap (λ (w : List (List ℕ)). words_of front ++ w) (words_of_blanks blanks (right_of_and (is_blank b) (list_all is_blank blanks) h))
    ∙ append-nil (words_of front)

-- ---- bytes that are skipped

skipped : (p q : ℕ → Bool) → ((b : ℕ) → q b ≡ not (p b)) → (bytes : List ℕ) → IsSkipped p bytes (drop (position_or_len q bytes) bytes)
skipped p q other [] = record { front = []; parts = refl; passed = refl; ends = tt }
skipped p q other (b ∷ bytes) = go (p b) refl (skipped p q other bytes)
  where
    go : (t : Bool) → p b ≡ t → IsSkipped p bytes (drop (position_or_len q bytes) bytes) → IsSkipped p (b ∷ bytes) (drop (position_or_len q (b ∷ bytes)) (b ∷ bytes))
    go true e s =
        let fails : q b ≡ false = other b ∙ ap not e in
        let at : position_or_len q (b ∷ bytes) ≡ suc (position_or_len q bytes) = rw fails (omega arith) in
        rw at (record { front = b ∷ s.front; parts = ap (λ (l : List ℕ). b ∷ l) s.parts; passed = rw (e, s.passed) refl; ends = s.ends })
    go false e s =
        let passes : q b ≡ true = other b ∙ ap not e in
        let at : position_or_len q (b ∷ bytes) ≡ 0 = rw passes refl in
        rw at (record { front = []; parts = refl; passed = refl; ends = e })

none_where_false : (b : Bool) (n : ℕ) → cond b (Some n) None ≡ None → b ≡ false
none_where_false true n e = absurd cc
none_where_false false n e = refl

pub skipped_to : (p q : ℕ → Bool) → ((b : ℕ) → q b ≡ not (p b)) → (bytes : List ℕ) (at : ℕ) → position q bytes ≡ Some at → IsSkipped p bytes (drop at bytes)
skipped_to p q other bytes at e =
    let h = cond_some (ltb (position_or_len q bytes) (length bytes)) (position_or_len q bytes) at e in
    subst (λ (n : ℕ). IsSkipped p bytes (drop n bytes)) h.1 (skipped p q other bytes)

pub all_skipped : (p q : ℕ → Bool) → ((b : ℕ) → q b ≡ not (p b)) → (bytes : List ℕ) → position q bytes ≡ None → IsSkipped p bytes []
all_skipped p q other bytes e =
    let test : ltb (position_or_len q bytes) (length bytes) ≡ false = none_where_false _ _ e in
    let long : length bytes ≤ position_or_len q bytes = grind (arith, nat_tests) in
    subst (IsSkipped p bytes) (drop_all (position_or_len q bytes) bytes long) (skipped p q other bytes)

-- ---- a line behind so many words

-- so many words of the line stand before what is left, which begins with a blank or with a word
pub record IsLeft (line : List ℕ) (words : ℕ) (left : List ℕ) : Type 0 where
  pub front : List ℕ
  pub parts : line ≡ front ++ left
  pub before : words_of front ≡ take words (words_of line)
  pub behind : words_of left ≡ drop words (words_of line)
  pub apart : EndsBlank front ⊎ BeginsElse is_letter left

pub none_taken : (line : List ℕ) → IsLeft line 0 line
none_taken line = record { front = []; parts = refl; before = refl; behind = refl; apart = inl (inl refl) }

-- what is left begins with its next word, if there is one
pub record IsAtWord (line : List ℕ) (words : ℕ) (left : List ℕ) : Type 0 where
  pub front : List ℕ
  pub parts : line ≡ front ++ left
  pub before : words_of front ≡ take words (words_of line)
  pub behind : words_of left ≡ drop words (words_of line)
  pub begins : BeginsWord front left

begins_word : (front blanks left rest : List ℕ) → rest ≡ blanks ++ left → list_all is_blank blanks ≡ true → BeginsElse is_blank left → EndsBlank front ⊎ BeginsElse is_letter rest → BeginsWord (front ++ blanks) left
begins_word front blanks [] rest e all ends apart = tt
begins_word front blanks (b ∷ left) rest e all ends (inl f) = (ends_behind front blanks f (blanks_end blanks all), ends)
begins_word front [] (b ∷ left) rest e all ends (inr h) = absurd (let letter = blank_of (is_blank b) (rw e at h) in cc)
begins_word front (c ∷ blanks) (b ∷ left) rest e all ends (inr h) = (ends_nonempty, ends)
  where
    more : EndsBlank (c ∷ blanks) → EndsBlank (front ++ c ∷ blanks)
    more (inl none) = absurd cc
    more (inr (init, d, is, k)) = inr (front ++ init, d, ap (λ (l : List ℕ). front ++ l) is ∙ sym (append_assoc front init (d ∷ [])), k)

    ends_nonempty : EndsBlank (front ++ c ∷ blanks)
    ends_nonempty = more (blanks_end (c ∷ blanks) all)

pub behind_blanks : (line : List ℕ) (words : ℕ) (rest left : List ℕ) → IsLeft line words rest → IsSkipped is_blank rest left → IsAtWord line words left
behind_blanks line words rest left l s = record {
  front = l.front ++ s.front;
  parts = l.parts ∙ ap (λ (b : List ℕ). l.front ++ b) s.parts ∙ sym (append_assoc l.front s.front left);
  before = before_blanks l.front s.front s.passed ∙ l.before;
  behind = same_behind ∙ l.behind;
  begins = begins_word l.front s.front left rest s.parts s.passed s.ends l.apart;
}
  where
    none : words_of s.front ≡ []
    none = words_of_blanks s.front s.passed

    same_behind : words_of left ≡ words_of rest
    same_behind = sym (ap words_of s.parts ∙ words_behind s.front left (blanks_end s.front s.passed) ∙ ap (λ (w : List (List ℕ)). w ++ words_of left) none)

-- ---- one word more

pub one_more : (n : ℕ) (words : List (List ℕ)) (word : List ℕ) (others : List (List ℕ)) → word ∷ others ≡ drop n words → (take (n + 1) words ≡ take n words ++ word ∷ []) × (drop (n + 1) words ≡ others)
one_more n words word others e = (more n words e, rest n words e)
  where
    more : (n : ℕ) (words : List (List ℕ)) → word ∷ others ≡ drop n words → take (n + 1) words ≡ take n words ++ word ∷ []
    more zero words e = rw (sym e) refl
    more (suc n) [] e = absurd cc
    more (suc n) (w ∷ words) e = rw add-one (ap (λ (l : List (List ℕ)). w ∷ l) (let m = more n words e in rw add-one at m))

    rest : (n : ℕ) (words : List (List ℕ)) → word ∷ others ≡ drop n words → drop (n + 1) words ≡ others
    rest zero words e = rw (sym e) refl
    rest (suc n) [] e = absurd cc
    rest (suc n) (w ∷ words) e = rw add-one (let m = rest n words e in rw add-one at m)

none_more : (n : ℕ) (words : List (List ℕ)) → [] ≡ drop n words → (take (n + 1) words ≡ take n words) × (drop (n + 1) words ≡ [])
none_more n words e = (more n words e, rest n words e)
  where
    more : (n : ℕ) (words : List (List ℕ)) → [] ≡ drop n words → take (n + 1) words ≡ take n words
    more zero words e = rw (sym e) refl
    more (suc n) [] e = rw add-one refl
    more (suc n) (w ∷ words) e = rw add-one (ap (λ (l : List (List ℕ)). w ∷ l) (let m = more n words e in rw add-one at m))

    rest : (n : ℕ) (words : List (List ℕ)) → [] ≡ drop n words → drop (n + 1) words ≡ []
    rest zero words e = rw (sym e) refl
    rest (suc n) [] e = rw add-one refl
    rest (suc n) (w ∷ words) e = rw add-one (let m = rest n words e in rw add-one at m)

no_rest : (front rest : List ℕ) → [] ≡ front ++ rest → [] ≡ rest
no_rest [] rest e = e
no_rest (c ∷ front) rest e = absurd cc

behind_no_word : (line : List ℕ) (words : ℕ) (rest : List ℕ) → IsAtWord line words [] → IsSkipped is_letter [] rest → IsLeft line (words + 1) rest
behind_no_word line words rest a s =
    let none : [] ≡ rest = no_rest s.front rest s.parts in
    let m = none_more words (words_of line) a.behind in
    record {
      front = a.front;
      parts = a.parts ∙ ap (λ (b : List ℕ). a.front ++ b) none;
      before = a.before ∙ sym m.0;
      behind = sym (ap words_of none) ∙ sym m.1;
      apart = inr s.ends;
    }

behind_letters : (line : List ℕ) (words : ℕ) (b : ℕ) (left word rest : List ℕ) → (b ∷ left) ≡ word ++ rest → list_all is_letter word ≡ true → BeginsElse is_letter rest → IsAtWord line words (b ∷ left) → IsLeft line (words + 1) rest
behind_letters line words b left [] rest e all ends a = absurd (let letter = rw (← e) at ends in let blank = blank_of (is_blank b) letter in let no = a.begins.1 in cc)
behind_letters line words b left (c ∷ word) rest e all ends a =
    let alone : words_of (c ∷ word) ≡ (c ∷ word) ∷ [] = word_alone c word all in
    let here : (c ∷ word) ∷ words_of rest ≡ drop words (words_of line) =
    sym (ap words_of e ∙ words_before (c ∷ word) rest ends ∙ ap (λ (w : List (List ℕ)). w ++ words_of rest) alone) ∙ a.behind in
    let m = one_more words (words_of line) (c ∷ word) (words_of rest) here in
    record {
      front = a.front ++ c ∷ word;
      parts = a.parts ∙ ap (λ (l : List ℕ). a.front ++ l) e ∙ sym (append_assoc a.front (c ∷ word) rest);
      before = words_behind a.front (c ∷ word) a.begins.0 ∙ ap (λ (w : List (List ℕ)). words_of a.front ++ w) alone
          ∙ ap (λ (w : List (List ℕ)). w ++ (c ∷ word) ∷ []) a.before ∙ sym m.0;
      behind = sym m.1;
      apart = inr ends;
    }

pub behind_word : (line : List ℕ) (words : ℕ) (left rest : List ℕ) → IsAtWord line words left → IsSkipped is_letter left rest → IsLeft line (words + 1) rest
behind_word line words [] rest a s = behind_no_word line words rest a s
behind_word line words (b ∷ left) rest a s = behind_letters line words b left s.front rest s.parts s.passed s.ends a

pub is_column : (line : List ℕ) (words : ℕ) (left : List ℕ) → IsAtWord line words left → IsColumn line words (length line - length left + 1)
is_column line words left a = record {
  front = a.front;
  back = left;
  parts = a.parts;
  before = a.before;
  behind = a.behind;
  begins = a.begins;
  counted = omega (arith, ap length a.parts, length-append a.front left);
}

-- ---- a word has one column

some_word : (b : ℕ) (bytes : List ℕ) → is_blank b ≡ false → 0 < length (words_of (b ∷ bytes))
some_word b bytes h = go (slice_split is_blank bytes) refl
  where
    go : (parts : List (List ℕ)) → slice_split is_blank bytes ≡ parts → 0 < length (words_of (b ∷ bytes))
    go [] e = absurd (let none = ap length e in omega (arith, some_parts is_blank bytes))
    go (part ∷ parts) e =
        let kept : some_bytes (b ∷ part) ≡ true = grind (arith, nat_tests) in
        rw (h, e, kept) (omega arith)

-- of two fronts of one line the one goes on where the other ends
data OneLonger (a b c d : List ℕ) : Type 0 where
  first : (more : List ℕ) → a ≡ c ++ more → d ≡ more ++ b → OneLonger a b c d
  second : (more : List ℕ) → c ≡ a ++ more → b ≡ more ++ d → OneLonger a b c d

one_longer : (a b c d : List ℕ) → a ++ b ≡ c ++ d → OneLonger a b c d
one_longer [] b c d e = second c refl e
one_longer (x ∷ a) b [] d e = first (x ∷ a) refl (sym e)
one_longer (x ∷ a) b (y ∷ c) d e = go (one_longer a b c d (let t : a ++ b ≡ c ++ d = cc in t))
  where
    same : x ≡ y
    same = cc

    go : OneLonger a b c d → OneLonger (x ∷ a) b (y ∷ c) d
    go (first more p q) = first more (rw (same, p) refl) q
    go (second more p q) = second more (rw (same, p) refl) q

-- no word begins between two columns of one word
none_between : (front more back : List ℕ) (words : List (List ℕ)) → BeginsWord front (more ++ back) → words_of front ≡ words → words_of (front ++ more) ≡ words → more ≡ []
none_between front [] back words begins short long = refl
none_between front (b ∷ more) back words begins short long =
    absurd (omega (
      arith,
      some_word b more begins.1,
      ap length (words_behind front (b ∷ more) begins.0),
      ap length short,
      ap length long,
      length-append (words_of front) (words_of (b ∷ more)),
    ))

pub one_column : (line : List ℕ) (place a b : ℕ) → IsColumn line place a → IsColumn line place b → a ≡ b
one_column line place a b p q = go (one_longer p.front p.back q.front q.back (sym p.parts ∙ q.parts))
  where
    go : OneLonger p.front p.back q.front q.back → a ≡ b
    go (first more is rest) =
        let none : more ≡ [] = none_between q.front more p.back (take place (words_of line)) (subst (BeginsWord q.front) rest q.begins) q.before (ap words_of (sym is) ∙ p.before) in
        omega (arith, p.counted, q.counted, ap length is, length-append q.front more, ap length none)
    go (second more is rest) =
        let none : more ≡ [] = none_between p.front more q.back (take place (words_of line)) (subst (BeginsWord p.front) rest p.begins) p.before (ap words_of (sym is) ∙ q.before) in
        omega (arith, p.counted, q.counted, ap length is, length-append p.front more, ap length none)
