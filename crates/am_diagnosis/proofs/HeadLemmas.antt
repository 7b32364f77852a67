-- A part of a head is read just of a line whose words are as its parameters say.
use Rattle.std.proofs.Common.{◌≡◌, ℕ, Bool, true, false, cond, ◌&&◌, ◌||◌, List, [], ◌∷◌, Option, Some, None, refl, sym, subst, ◌∙◌}
use Rattle.std.specs.Prelude.{codes, bytes_eq, is_some, is_none, nat_le}
use Rattle.std.specs.List.{list_all}
use Rattle.std.proofs.lemmas.Slice.Eq.{bytes_eq-Decides}
use Rattle.am_names.specs.{is_in_range}
use Rattle.am_script.specs.Numbers.{u32_read, u64_read}
use Rattle.am_script.specs.Limits.{limits_of, limits_read, negative_read}
use Rattle.am_script.specs.Sections.{are_only}
use Rattle.am_diagnosis.specs.declared.expected.Expected.{Expected}
use Rattle.am_diagnosis.specs.declared.expected.Expected.TheVariants.{Part, Limit, Waits, Lasting}
use Rattle.am_diagnosis.specs.declared.misfit.Misfit.{Misfit}
use Rattle.am_diagnosis.specs.Fits.{is_limit, is_waits}
use Rattle.am_diagnosis.specs.Misfits.{Words, ReadsJust, misfit_at, misfit_of}
use Rattle.am_diagnosis.specs.Parameters.{part_parameters}
use Rattle.am_diagnosis.specs.Heads.{part_misfit, is_part, is_section, IsPart}
use Rattle.am_diagnosis.proofs.MisfitLemmas.{is_met, shut}
use Rattle.am_diagnosis.proofs.LawLemmas.{AreMet, IsTable, just_by_tests}

in_range : (m w few t : Bool) (a b c : Misfit) → (m && w && few && t) ≡ is_none (cond m (cond (w && few) (cond t None (Some c)) (Some b)) (Some a))
in_range true true true true a b c = refl
in_range true true true false a b c = refl
in_range true true false t a b c = refl
in_range true false few t a b c = refl
in_range false w few t a b c = refl

-- ---- limits, and how long failures last

gate : (b : Bool) (o : Option Misfit) (m : Misfit) → is_none o ≡ false → false ≡ is_none (cond b o (Some m))
gate true o m h = sym h
gate false o m h = refl

some_if : {A : Type 0} (b : Bool) (x : A) → is_some (cond b (Some x) None) ≡ b
some_if true x = refl
some_if false x = refl

limits_whole : (m1 m2 m3 : Misfit) (mounts waits tokens : Option ℕ) → is_some (limits_of mounts waits tokens) ≡ is_none (cond (is_limit mounts) (cond (is_waits waits) (cond (is_limit tokens) None (Some m3)) (Some m2)) (Some m1))
limits_whole m1 m2 m3 None waits tokens = refl
limits_whole m1 m2 m3 (Some m) None tokens = gate (nat_le 1 m) (Some m2) m1 refl
limits_whole m1 m2 m3 (Some m) (Some w) None =
    gate (nat_le 1 m) (cond (nat_le 1 w && nat_le w 65536) (Some m3) (Some m2)) m1 (sym (gate (nat_le 1 w && nat_le w 65536) (Some m3) m2 refl))
limits_whole m1 m2 m3 (Some m) (Some w) (Some t) =
    some_if (is_in_range (record { mounts = m; waiters = w; tokens = t; negative = 0 })) (record { mounts = m; waiters = w; tokens = t; negative = 0 })
    ∙ in_range (nat_le 1 m) (nat_le 1 w) (nat_le w 65536) (nat_le 1 t) m1 m2 m3

limits_agree : (words : Words) → is_some (limits_read words) ≡ is_none (misfit_of 1 (Limit ∷ Waits ∷ Limit ∷ []) words)
limits_agree [] = refl
limits_agree (a ∷ []) = sym (shut 1 (Limit ∷ Waits ∷ Limit ∷ []) a [] refl)
limits_agree (a ∷ b ∷ []) = sym (shut 1 (Limit ∷ Waits ∷ Limit ∷ []) a (b ∷ []) (shut 2 (Waits ∷ Limit ∷ []) b [] refl))
limits_agree (a ∷ b ∷ c ∷ []) = limits_whole (misfit_at 1 Limit) (misfit_at 2 Waits) (misfit_at 3 Limit) (u32_read a) (u32_read b) (u32_read c)
limits_agree (a ∷ b ∷ c ∷ other ∷ words) = sym (shut 1 (Limit ∷ Waits ∷ Limit ∷ []) a (b ∷ c ∷ other ∷ words) (shut 2 (Waits ∷ Limit ∷ []) b (c ∷ other ∷ words) (shut 3 (Limit ∷ []) c (other ∷ words) refl)))

read_alone : (m : Misfit) (a : Option ℕ) → is_some a ≡ is_none (cond (is_some a) None (Some m))
read_alone m None = refl
read_alone m (Some a) = refl

negative_agrees : (words : Words) → is_some (negative_read words) ≡ is_none (misfit_of 1 (Lasting ∷ []) words)
negative_agrees [] = refl
negative_agrees (a ∷ []) = read_alone (misfit_at 1 Lasting) (u64_read a)
negative_agrees (a ∷ other ∷ words) = sym (shut 1 (Lasting ∷ []) a (other ∷ words) refl)

-- ---- a part by its first word

no_section : (word : List ℕ) (words : Words) → bytes_eq word (codes "master") ≡ false → bytes_eq word (codes "map") ≡ false → is_section (word ∷ words) ≡ false
no_section word [] master map = rw master refl
no_section word (name ∷ []) master map = rw map refl
no_section word (name ∷ other ∷ words) master map = refl

no_events : (word : List ℕ) (words : Words) → bytes_eq word (codes "events") ≡ false → are_only (codes "events") (word ∷ words) ≡ false
no_events word [] events = events
no_events word (other ∷ words) events = refl

first_alone : (x s e : Bool) → s ≡ false → e ≡ false → (x || false || s || e) ≡ x
first_alone x true e h k = absurd cc
first_alone x false true h k = absurd cc
first_alone true false false h k = refl
first_alone false false false h k = refl

second_alone : (x s e : Bool) → s ≡ false → e ≡ false → (false || x || s || e) ≡ x
second_alone x true e h k = absurd cc
second_alone x false true h k = absurd cc
second_alone true false false h k = refl
second_alone false false false h k = refl

none_alone : (l x n y s e : Bool) → l ≡ false → n ≡ false → s ≡ false → e ≡ false → ((l && x) || (n && y) || s || e) ≡ false
none_alone true x n y s e h i j k = absurd cc
none_alone false x true y s e h i j k = absurd cc
none_alone false x false y true e h i j k = absurd cc
none_alone false x false y false true h i j k = absurd cc
none_alone false x false y false false h i j k = refl

abbrev Agrees : Words → Type 0
Agrees words = is_part words ≡ is_none (part_misfit words)

at_limits : (words : Words) → Agrees (codes "limits" ∷ words)
unfolding part_parameters
at_limits words =
    first_alone (is_some (limits_read words)) (is_section (codes "limits" ∷ words)) (are_only (codes "events") (codes "limits" ∷ words)) (no_section (codes "limits") words refl refl) (no_events (codes "limits") words refl)
    ∙ limits_agree words

at_negative : (words : Words) → Agrees (codes "negative" ∷ words)
unfolding part_parameters
at_negative words =
    second_alone (is_some (negative_read words)) (is_section (codes "negative" ∷ words)) (are_only (codes "events") (codes "negative" ∷ words)) (no_section (codes "negative") words refl refl) (no_events (codes "negative") words refl)
    ∙ negative_agrees words

at_master : (words : Words) → Agrees (codes "master" ∷ words)
unfolding part_parameters
at_master [] = refl
at_master (name ∷ []) = refl
at_master (name ∷ other ∷ words) = refl

at_map : (words : Words) → Agrees (codes "map" ∷ words)
unfolding part_parameters
at_map [] = refl
at_map (name ∷ []) = refl
at_map (name ∷ other ∷ words) = refl

at_events : (words : Words) → Agrees (codes "events" ∷ words)
unfolding part_parameters
at_events [] = refl
at_events (name ∷ []) = refl
at_events (name ∷ other ∷ words) = refl

-- a line that begins with this word is one that begins with these letters
at_word : (word text : List ℕ) (words : Words) → bytes_eq word text ≡ true → Agrees (text ∷ words) → Agrees (word ∷ words)
at_word word text words same here = subst (λ (w : List ℕ). Agrees (w ∷ words)) (sym ((bytes_eq-Decides word text).0 same)) here

at_other : (word : List ℕ) (words : Words) → bytes_eq word (codes "limits") ≡ false → bytes_eq word (codes "negative") ≡ false → bytes_eq word (codes "master") ≡ false → bytes_eq word (codes "map") ≡ false → bytes_eq word (codes "events") ≡ false → Agrees (word ∷ words)
unfolding part_parameters
at_other word words l n m p e =
    none_alone (bytes_eq word (codes "limits")) (is_some (limits_read words)) (bytes_eq word (codes "negative")) (is_some (negative_read words)) (is_section (word ∷ words)) (are_only (codes "events") (word ∷ words)) l n (no_section word words m p) (no_events word words e)
    ∙ rw (l, n, m, p, e) refl

part_agrees : (words : Words) → Agrees words
part_agrees [] = refl
part_agrees (word ∷ words) = limits (bytes_eq word (codes "limits")) refl
  where
    events : (b : Bool) → bytes_eq word (codes "events") ≡ b → bytes_eq word (codes "limits") ≡ false → bytes_eq word (codes "negative") ≡ false → bytes_eq word (codes "master") ≡ false → bytes_eq word (codes "map") ≡ false → Agrees (word ∷ words)
    events true h l n m p = at_word word (codes "events") words h (at_events words)
    events false h l n m p = at_other word words l n m p h

    map : (b : Bool) → bytes_eq word (codes "map") ≡ b → bytes_eq word (codes "limits") ≡ false → bytes_eq word (codes "negative") ≡ false → bytes_eq word (codes "master") ≡ false → Agrees (word ∷ words)
    map true h l n m = at_word word (codes "map") words h (at_map words)
    map false h l n m = events (bytes_eq word (codes "events")) refl l n m h

    master : (b : Bool) → bytes_eq word (codes "master") ≡ b → bytes_eq word (codes "limits") ≡ false → bytes_eq word (codes "negative") ≡ false → Agrees (word ∷ words)
    master true h l n = at_word word (codes "master") words h (at_master words)
    master false h l n = map (bytes_eq word (codes "map")) refl l n h

    negative : (b : Bool) → bytes_eq word (codes "negative") ≡ b → bytes_eq word (codes "limits") ≡ false → Agrees (word ∷ words)
    negative true h l = at_word word (codes "negative") words h (at_negative words)
    negative false h l = master (bytes_eq word (codes "master")) refl l h

    limits : (b : Bool) → bytes_eq word (codes "limits") ≡ b → Agrees (word ∷ words)
    limits true h = at_word word (codes "limits") words h (at_limits words)
    limits false h = negative (bytes_eq word (codes "negative")) refl h

pub parts_are_read : ReadsJust IsPart part_misfit
parts_are_read = just_by_tests is_part part_misfit part_agrees

-- ---- each parameter can be met

row_met : (word : Bool) (kinds : List Expected) (rows : Option (List Expected)) → list_all is_met kinds ≡ true → AreMet rows → AreMet (cond word (Some kinds) rows)
row_met true kinds rows here behind = here
row_met false kinds rows here behind = behind

parts_met : (word : List ℕ) → AreMet (part_parameters word)
unfolding part_parameters
parts_met word =
    row_met (bytes_eq word (codes "limits")) _ _ refl (
    row_met (bytes_eq word (codes "negative")) _ _ refl (
    row_met (bytes_eq word (codes "master")) _ _ refl (
    row_met (bytes_eq word (codes "map")) _ _ refl (
    row_met (bytes_eq word (codes "events")) _ _ refl tt))))

pub parts_are_a_table : IsTable Part part_parameters
unfolding part_parameters
parts_are_a_table = record {
  fits_rows = λ word. refl;
  goes_on = refl;
  met = parts_met;
  some = codes "events" ∷ [];
  some_read = refl;
}
