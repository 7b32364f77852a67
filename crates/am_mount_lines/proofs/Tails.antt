-- The parts of a line, by what is read of each.
use Rattle.std.proofs.Common.{◌≡◌, ℕ, ◌+◌, ◌-◌, ◌<◌, ◌≤◌, true, false, ltb, ◌==◌, List, [], length, map, take, drop, get_or, Option, Some, None, refl, sym, ap, subst, ◌∙◌, arith}
use Rattle.std.specs.Prelude.{position, codes, ◌≢◌}
use Rattle.std.specs.Option.{option_map}
use Rattle.std.specs.List.{before_first, after_first}
use Rattle.std.proofs.lemmas.Bool.Decides.{nat_tests}
use Rattle.std.proofs.lemmas.List.{length-map, length-take, get_or-map, take-map, drop-map, take_rest}
use Rattle.std.proofs.lemmas.Slice.Eq.{bytes_eq-Decides}
use Rattle.am_mount_lines.specs.Traps.{begins, told, trap_of}
use Rattle.am_mount_lines.specs.Lines.{fields_misfit, is_bad_field, is_dash, last_word, misfit_at, misfit_of, number_read, path_told, tail_misfit, word_at}
use Rattle.am_mount_lines.specs.declared.misfit.Misfit.{Misfit}
use Rattle.am_mount_lines.specs.declared.trap.Trap.{Trap}
use Rattle.am_mount_lines.proofs.Found.{first_at}

begins_within : (tag word : List ℕ) → begins tag word ≡ true → length tag ≤ length word
begins_within tag word h =
    let e : tag ≡ take (length tag) word = (bytes_eq-Decides tag (take (length tag) word)).0 h in
    let l : length tag ≡ length (take (length tag) word) = ap length e in
    omega (arith, l, length-take (length tag) word)

-- a number isn't this one
differs : (n m : ℕ) → n ≢ m → (n == m) ≡ false
differs n m h = grind (arith, nat_tests)

not_below : (n m : ℕ) → m ≤ n → ltb n m ≡ false
not_below n m h = grind (arith, nat_tests)

-- the field at this place is the first with the tag
pub record IsTold (tag : List ℕ) (fields : List (List ℕ)) (field : List ℕ) : Type 0 where
  pub fits : length tag ≤ length field
  pub is : told tag fields ≡ Some (drop (length tag) field)

module _ {A : Type 0} (f : A → List ℕ) (words : List A) (at : ℕ) where
  pub told_at : (tag : List ℕ) (d : A) → position (begins tag) (map f words) ≡ Some at →
      IsTold tag (map f words) (f (get_or words at d))
  told_at tag d e =
      let h = first_at (begins tag) (map f words) at e in
      let within : at < length words = subst (λ (n : ℕ). at < n) (length-map words f) h.within in
      let same : get_or (map f words) at [] ≡ f (get_or words at d) = get_or-map f words at d [] within in
      record {
        fits = begins_within tag (f (get_or words at d))
            (subst (λ (w : List ℕ). begins tag w ≡ true) same (h.passes []));
        is = ap (λ (o : Option (List ℕ)). option_map (λ (w : List ℕ). drop (length tag) w) o) (h.is [] ∙ ap Some same);
      }

  -- the optional fields, and what stands behind them, where the dash stands here
  pub fields_at : position is_dash (map f words) ≡ Some at → map f (take at words) ≡ before_first is_dash (map f words)
  fields_at e = rw ((first_at is_dash (map f words) at e).place) (sym (take-map f at words))

  behind_at : position is_dash (map f words) ≡ Some at →
      map f (drop (at + 1) words) ≡ after_first is_dash (map f words)
  behind_at e = rw ((first_at is_dash (map f words) at e).place) (sym (drop-map f (at + 1) words))

  pub trap_at : (kind options : List ℕ) (trap : Option Trap) → position is_dash (map f words) ≡ Some at →
      kind ≡ word_at (map f (take (length words - (at + 1)) (drop (at + 1) words))) 0 →
      options ≡ last_word (map f (take (length words - (at + 1)) (drop (at + 1) words))) →
      trap ≡ trap_of kind options →
      trap_of (word_at (after_first is_dash (map f words)) 0) (last_word (after_first is_dash (map f words))) ≡ trap
  trap_at kind options trap dash k o t =
      let rest = take_rest words (at + 1) in
      let k1 : kind ≡ word_at (map f (drop (at + 1) words)) 0 =
      subst (λ (ws : List A). kind ≡ word_at (map f ws) 0) rest k in
      let o1 : options ≡ last_word (map f (drop (at + 1) words)) =
      subst (λ (ws : List A). options ≡ last_word (map f ws)) rest o in
      subst (λ (ws : List (List ℕ)). trap_of (word_at ws 0) (last_word ws) ≡ trap) (behind_at dash)
      (sym (t ∙ ap (λ (w : List ℕ). trap_of w options) k1
      ∙ ap (trap_of (word_at (map f (drop (at + 1) words)) 0)) o1))

  module _ (dash : position is_dash (map f words) ≡ Some at) (more : length words ≢ at + 1) where
    -- by what the fields are
    by_fields : (o : Option Misfit) → fields_misfit (map f (take at words)) ≡ o →
        tail_misfit (map f words) (position is_dash (map f words)) ≡ o
    by_fields o h = rw (dash, length-map words f, differs (length words) (at + 1) more, take-map f at words) h

    pub bad_group : (m : Misfit) → is_bad_field (codes "shared:") (map f (take at words)) ≡ true →
        misfit_at (position (begins (codes "shared:")) (map f (take at words))) ≡ Some m →
        tail_misfit (map f words) (position is_dash (map f words)) ≡ Some m
    bad_group m bad h = by_fields (Some m) (rw bad h)

    pub bad_master : (m : Misfit) → is_bad_field (codes "shared:") (map f (take at words)) ≡ false →
        is_bad_field (codes "master:") (map f (take at words)) ≡ true →
        misfit_at (position (begins (codes "master:")) (map f (take at words))) ≡ Some m →
        tail_misfit (map f words) (position is_dash (map f words)) ≡ Some m
    bad_master m good bad h = by_fields (Some m) (rw (good, bad) h)

    pub whole_tail : is_bad_field (codes "shared:") (map f (take at words)) ≡ false →
        is_bad_field (codes "master:") (map f (take at words)) ≡ false →
        tail_misfit (map f words) (position is_dash (map f words)) ≡ None
    whole_tail group master = by_fields None (rw (group, master) refl)

pub whole_line : {A : Type 0} (f : A → List ℕ) (words : List A) (number parent : ℕ) (path : List (List ℕ)) →
    number_read (word_at (map f words) 0) ≡ Some number → number_read (word_at (map f words) 1) ≡ Some parent →
    path_told (word_at (map f words) 4) ≡ Some path → 6 ≤ length words →
    tail_misfit (map f (drop 6 words)) (position is_dash (map f (drop 6 words))) ≡ None →
    misfit_of (map f words) ≡ None
whole_line f words number parent path n p t long tail =
    let three : ltb (length words) 3 ≡ false = not_below (length words) 3 (omega arith) in
    let four : ltb (length words) 4 ≡ false = not_below (length words) 4 (omega arith) in
    let six : ltb (length words) 6 ≡ false = not_below (length words) 6 long in
    rw (n, p, length-map words f, three, four, t, six, drop-map f 6 words) tail
