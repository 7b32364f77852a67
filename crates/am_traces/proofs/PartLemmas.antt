-- What is cut from a line, and that it is cut from what is printed of it.
use Rattle.std.proofs.Common.{◌≡◌, ℕ, ◌^◌, ◌<◌, ◌≤◌, true, List, [], ◌∷◌, ◌++◌, length, take, drop, Option, Some, None, Result, Ok, Err, refl, sym, ap, ◌∙◌, subst, arith}
use Rattle.std.specs.Prelude.{decimal}
use Rattle.std.specs.Str.{bytes_eq}
use Rattle.std.proofs.lemmas.Slice.Eq.{bytes_eq-Decides}
use Rattle.std.proofs.lemmas.List.{length-take-le, take-append-drop, append-nil}
use Rattle.std.specs.Prelude.{not}
use Rattle.std.specs.List.{position_or_len}
use Rattle.std.proofs.lemmas.List.Sums.{prefix_len-le-length}
use Rattle.am_script.specs.{number_read}
use Rattle.am_traces.specs.declared.fault.Expected.{Expected}
use Rattle.am_traces.specs.declared.fault.Miss.{Miss}
use Rattle.am_traces.specs.Parts.{◌>>=◌, miss, or_miss, behind, word_cut, is_no_digit, digits_in, numeral_cut, number_cut, end_cut}
use Rattle.am_traces.proofs.NumberLemmas.{take_front, drop_front, ends_digits, digits_of_number, number_back, some_where, number_is_printed}

-- a part was read, and then the others
pub record Went {A B : Type 0} (r : Result A Miss) (next : A → Result B Miss) (b : B) : Type 0 where
  pub part : A
  pub cut : r ≡ Ok part
  pub on : next part ≡ Ok b

pub went : {A B : Type 0} (r : Result A Miss) (next : A → Result B Miss) (b : B) → (r >>= next) ≡ Ok b → Went r next b
went (Ok a) next b e = record { part = a; cut = refl; on = e }
went (Err m) next b e = absurd cc

-- the part was read
abbrev pub ok : {A : Type 0} → A → Result A Miss
ok part = Ok part

pub ok_is : {A : Type 0} (a b : A) → ok a ≡ ok b → a ≡ b
ok_is a b e = cc

pub found : {T : Type 0} (m : Miss) (o : Option T) (x : T) → or_miss m o ≡ Ok x → o ≡ Some x
found m None x e = absurd cc
found m (Some y) x e = cc

same_bytes : (bytes : List ℕ) → bytes_eq bytes bytes ≡ true
same_bytes bytes = (bytes_eq-Decides bytes bytes).1 refl

pub behind_is : (word text rest : List ℕ) → behind word text ≡ Some rest → text ≡ word ++ rest
behind_is word text rest e =
    let h = some_where (bytes_eq (take (length word) text) word) (drop (length word) text) rest e in
    let front : take (length word) text ≡ word = (bytes_eq-Decides (take (length word) text) word).0 h.0 in
    sym (take-append-drop (length word) text)
    ∙ ap (λ (t : List ℕ). t ++ drop (length word) text) front ∙ ap (λ (t : List ℕ). word ++ t) h.1

pub behind_back : (word rest : List ℕ) → behind word (word ++ rest) ≡ Some rest
behind_back word rest = rw (take_front word rest, same_bytes word, drop_front word rest) refl

pub word_is : (word : List ℕ) (part : Expected) (text rest : List ℕ) → word_cut word part text ≡ Ok rest → text ≡ word ++ rest
unfolding word_cut
word_is word part text rest e = behind_is word text rest (found (miss part text) (behind word text) rest e)

pub word_back : (word : List ℕ) (part : Expected) (rest : List ℕ) → word_cut word part (word ++ rest) ≡ Ok rest
unfolding word_cut
word_back word part rest = rw (behind_back word rest) refl

-- what is left behind a number that was printed
pub record IsNumber (bound : ℕ) (text : List ℕ) (cut : ℕ × List ℕ) : Type 0 where
  pub printed : text ≡ decimal cut.0 ++ cut.1
  pub fits : cut.0 < bound

front : (text : List ℕ) → take (length (digits_in text)) text ≡ digits_in text
front text =
    ap (λ (n : ℕ). take n text)
    (length-take-le (position_or_len is_no_digit text) text (prefix_len-le-length (λ b. not (is_no_digit b)) text))

pub numeral_is : (bound : ℕ) (part : Expected) (text : List ℕ) (cut : ℕ × List ℕ) → bound ≤ 2 ^ 64 → numeral_cut bound part text ≡ Ok cut → IsNumber bound text cut
unfolding numeral_cut
numeral_is bound part text cut small e =
    let w = went (or_miss (miss part text) (number_read bound (digits_in text))) (λ number. Ok (number, drop (length (digits_in text)) text)) cut e in
    let n = number_is_printed bound w.part (digits_in text) (found _ _ _ w.cut) small in
    let is : (w.part, drop (length (digits_in text)) text) ≡ cut = ok_is _ _ w.on in
    subst (λ (c : ℕ × List ℕ). IsNumber bound text c) is (record {
      printed = sym (take-append-drop (length (digits_in text)) text)
          ∙ ap (λ (t : List ℕ). t ++ drop (length (digits_in text)) text) (front text ∙ n.0);
      fits = n.1;
    })

pub numeral_back : (bound : ℕ) (part : Expected) (n : ℕ) (rest : List ℕ) → n < bound → bound ≤ 2 ^ 64 → ends_digits rest ≡ true → numeral_cut bound part (decimal n ++ rest) ≡ Ok (n, rest)
unfolding numeral_cut
numeral_back bound part n rest h small e =
    let wide : n < 2 ^ 64 = omega arith in
    rw (digits_of_number n rest wide e, number_back bound n h small, drop_front (decimal n) rest) refl

pub record IsNumberBehind (word : List ℕ) (bound : ℕ) (text : List ℕ) (cut : ℕ × List ℕ) : Type 0 where
  pub printed : text ≡ word ++ (decimal cut.0 ++ cut.1)
  pub fits : cut.0 < bound

pub number_is : (word : List ℕ) (bound : ℕ) (part : Expected) (text : List ℕ) (cut : ℕ × List ℕ) → bound ≤ 2 ^ 64 → number_cut word bound part text ≡ Ok cut → IsNumberBehind word bound text cut
unfolding number_cut
number_is word bound part text cut small e =
    let w = went (word_cut word part text) (λ rest. numeral_cut bound part rest) cut e in
    let n = numeral_is bound part w.part cut small w.on in
    record {
      printed = word_is word part text w.part w.cut ∙ ap (λ (t : List ℕ). word ++ t) n.printed;
      fits = n.fits;
    }

pub number_goes : (word : List ℕ) (bound : ℕ) (part : Expected) (n : ℕ) (rest : List ℕ) → n < bound → bound ≤ 2 ^ 64 → ends_digits rest ≡ true → number_cut word bound part (word ++ (decimal n ++ rest)) ≡ Ok (n, rest)
unfolding number_cut
number_goes word bound part n rest h small e =
    rw (word_back word part (decimal n ++ rest)) (numeral_back bound part n rest h small e)

-- a number is the last part
pub number_ends : (word : List ℕ) (bound : ℕ) (part : Expected) (n : ℕ) → n < bound → bound ≤ 2 ^ 64 → number_cut word bound part (word ++ decimal n) ≡ Ok (n, [])
number_ends word bound part n h small =
    subst (λ (t : List ℕ). number_cut word bound part (word ++ t) ≡ Ok (n, [])) (append-nil (decimal n))
    (number_goes word bound part n [] h small refl)

pub end_is : (text : List ℕ) (u : Unit {0}) → end_cut text ≡ Ok u → text ≡ []
unfolding end_cut
end_is [] u e = refl
end_is (b ∷ text) u e = absurd cc
