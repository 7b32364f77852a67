-- How long failures last in a script is what the first lines of its head tell.
use Rattle.std.specs.Prelude.{⊤}
use Rattle.std.proofs.Common.{◌≡◌, ◌+◌, ◌-◌, ℕ, length, take, Bool, true, false, cond, List, [], ◌∷◌, Option, Some, None, Result, Ok, Err, refl, sym, ap, subst, ◌∙◌}
use Rattle.std.specs.Prelude.{codes, drop, bytes_eq, not, if◌then◌else◌}
use Rattle.std.proofs.lemmas.Slice.Eq.{bytes_eq-Decides}
use Rattle.am_names.proofs.Basics.{some_injective}
use Rattle.am_names.specs.declared.limits.Limits.{Limits}
use Rattle.am_names.specs.{is_in_range}
use Rattle.am_lines.specs.{words_of}
use Rattle.am_map.specs.{Row}
use Rattle.am_machine.specs.{Setup}
use Rattle.am_script.specs.{ScriptFault, ScriptFaultKind, Told, is_long, are_skipped, limits_read, negative_read, Section, Part, Alone, Whole, Unended, Long, parts_in, parts_of_lines, part_by, with_line, is_end, are_only, Headed, Begins, Ends, Faulty, is_limits, is_negative, with_negative, limits_by, negative_by, negative_then, master_by, maps_read, head_of, begun_by, script_by, script_from, script_of, section_read, broken, cut_line, lines_of, played}
use Rattle.am_script.specs.Head.{Head, no_head, limits_then, maps_then, master_then, with_map, is_map}
use Rattle.am_script.specs.Limits.{checked, limits_of}
use Rattle.am_script.specs.Maps.{opening_with}
use Rattle.am_script.specs.Numbers.{u32_read}
use Rattle.am_script.specs.Sections.{section_opened}
use Rattle.am_master.specs.MasterRow.{MasterRow}
use Rattle.am_draw.specs.HeadNegative.{LastFor, negative_first, negative_in, or_none, said}
use Rattle.am_draw.specs.HeadNegative as told

-- where the head is whole failures last so long
abbrev SaysSo : ℕ → Headed → Type 0
SaysSo n (Begins head number) = n ≡ head.limits.negative
SaysSo n (Ends section) = ⊤
SaysSo n (Faulty fault) = ⊤

in_either_case : (n : ℕ) (b : Bool) (first second : Headed) → SaysSo n first → SaysSo n second → SaysSo n (if b then first else second)
in_either_case n true first second h g = h
in_either_case n false first second h g = g

-- ---- behind the limits

maps_keep : (head : Head) (parts : List Part) → SaysSo head.limits.negative (maps_then head parts)
maps_keep head [] = tt
maps_keep head (Long number ∷ parts) = tt
maps_keep head (Alone number words ∷ parts) = in_either_case head.limits.negative (are_only (codes "events") words) _ _ refl tt
maps_keep head (Unended section None ∷ parts) = in_either_case head.limits.negative (is_map section) _ _ tt tt
maps_keep head (Unended section (Some number) ∷ parts) = in_either_case head.limits.negative (is_map section) _ _ tt tt
maps_keep head (Whole section ∷ parts) = in_either_case head.limits.negative (is_map section) _ _ (maps_keep (with_map head section) parts) tt

master_read_keeps : (read : Result (List MasterRow) ScriptFault) (first : ℕ) (head : Head) (parts : List Part) → SaysSo head.limits.negative (master_by read first head parts)
master_read_keeps (Ok rows) first head parts = maps_keep _ parts
master_read_keeps (Err fault) first head parts = tt

master_keeps : (head : Head) (parts : List Part) → SaysSo head.limits.negative (master_then head parts)
master_keeps head [] = tt
master_keeps head (Long number ∷ parts) = tt
master_keeps head (Alone number words ∷ parts) = maps_keep head (Alone number words ∷ parts)
master_keeps head (Unended section None ∷ parts) = tt
master_keeps head (Unended section (Some number) ∷ parts) = tt
master_keeps head (Whole section ∷ parts) =
    in_either_case head.limits.negative (is_map section) _ _ (maps_keep head (Whole section ∷ parts)) (master_read_keeps (section_read section) section.first head parts)

-- ---- a section opens

-- the parts from an open section on begin with it
abbrev BeginsWithSection : List Part → Type 0
BeginsWithSection [] = ⊥
BeginsWithSection (Long number ∷ parts) = ⊥
BeginsWithSection (Alone number words ∷ parts) = ⊥
BeginsWithSection (Unended section long ∷ parts) = ⊤
BeginsWithSection (Whole section ∷ parts) = ⊤

open_parts : (section : Section) (number : ℕ) (lines : List (List ℕ)) → BeginsWithSection (parts_in (Some section) number lines)
open_parts section number [] = tt
open_parts section number (line ∷ lines) =
    elim (is_long line) as (λ b. BeginsWithSection (cond b (Unended section (Some (number + 1)) ∷ []) (cond (is_end line) (Whole section ∷ parts_in None (number + 1) lines) (parts_in (Some (with_line section line)) (number + 1) lines)))) [
      | true ↦ tt
      | false ↦ elim (is_end line) as (λ e. BeginsWithSection (cond e (Whole section ∷ parts_in None (number + 1) lines) (parts_in (Some (with_line section line)) (number + 1) lines))) [
        | true ↦ tt
        | false ↦ open_parts (with_line section line) (number + 1) lines
      ]
    ]

negative_keeps : (head : Head) (parts : List Part) → BeginsWithSection parts → SaysSo head.limits.negative (negative_then head parts)
negative_keeps head [] h = absurd h
negative_keeps head (Long number ∷ parts) h = absurd h
negative_keeps head (Alone number words ∷ parts) h = absurd h
negative_keeps head (Unended section long ∷ parts) h = master_keeps head (Unended section long ∷ parts)
negative_keeps head (Whole section ∷ parts) h = master_keeps head (Whole section ∷ parts)

limits_keep : (head : Head) (parts : List Part) → BeginsWithSection parts → SaysSo head.limits.negative (limits_then head parts)
limits_keep head [] h = absurd h
limits_keep head (Long number ∷ parts) h = absurd h
limits_keep head (Alone number words ∷ parts) h = absurd h
limits_keep head (Unended section long ∷ parts) h = master_keeps head (Unended section long ∷ parts)
limits_keep head (Whole section ∷ parts) h = master_keeps head (Whole section ∷ parts)

-- a line that opens a section tells neither limits nor how long failures last
pub record IsNeither (words : List (List ℕ)) : Type 0 where
  pub limits : is_limits words ≡ false
  pub negative : is_negative words ≡ false

word_is : (word text : List ℕ) → bytes_eq word text ≡ true → word ≡ text
word_is word text e = (bytes_eq-Decides word text).0 e

neither_of : (word : List ℕ) (others : List (List ℕ)) (text : List ℕ) → bytes_eq word text ≡ true → bytes_eq text (codes "limits") ≡ false → bytes_eq text (codes "negative") ≡ false → IsNeither (word ∷ others)
neither_of word others text e limits negative = record {
  limits = ap (λ (t : List ℕ). bytes_eq t (codes "limits")) (word_is word text e) ∙ limits;
  negative = ap (λ (t : List ℕ). bytes_eq t (codes "negative")) (word_is word text e) ∙ negative;
}

section_neither : (number : ℕ) (words : List (List ℕ)) (section : Section) → section_opened number words ≡ Some section → IsNeither words
section_neither number [] section e = absurd cc
section_neither number (word ∷ []) section e = by (bytes_eq word (codes "master")) refl
  where
    by : (b : Bool) → bytes_eq word (codes "master") ≡ b → IsNeither (word ∷ [])
    by true t = neither_of word [] (codes "master") t refl refl
    by false t =
        let none : None ≡ Some section = rw t at e in
        absurd cc
section_neither number (word ∷ name ∷ []) section e = by (bytes_eq word (codes "map")) refl
  where
    by : (b : Bool) → bytes_eq word (codes "map") ≡ b → IsNeither (word ∷ name ∷ [])
    by true t = neither_of word (name ∷ []) (codes "map") t refl refl
    by false t =
        let none : None ≡ Some section = rw t at e in
        absurd cc
section_neither number (word ∷ name ∷ other ∷ words) section e = absurd cc

-- ---- the lines one after another

-- nothing is told by a line that tells neither
tells_none : (words : List (List ℕ)) (others : List (List (List ℕ))) → IsNeither words → negative_in (words ∷ others) ≡ 0
tells_none words others none = rw (none.limits, none.negative) refl

by_words : (words : List (List ℕ)) (number : ℕ) (head : Head) (parts : List Part) → head.limits.negative ≡ 0 → SaysSo (told.negative_by words) (negative_then head (Alone number words ∷ parts))
by_words words number head parts none = by (is_negative words)
  where
    tells : (seconds : Option ℕ) → SaysSo (or_none seconds) (negative_by seconds number head parts)
    tells (Some n) = master_keeps (with_negative head n) parts
    tells None = tt

    by : (b : Bool) → SaysSo (if b then or_none (negative_read (drop 1 words)) else 0) (if b then negative_by (negative_read (drop 1 words)) number head parts else master_then head (Alone number words ∷ parts))
    by true = tells (negative_read (drop 1 words))
    by false = subst (λ (n : ℕ). SaysSo n (master_then head (Alone number words ∷ parts))) none (master_keeps head (Alone number words ∷ parts))

second : (head : Head) (before : ℕ) (lines : List (List ℕ)) → head.limits.negative ≡ 0 → SaysSo (negative_first (said lines)) (negative_then head (parts_in None before lines))
second head before [] none = tt
second head before (line ∷ lines) none = by (second head (before + 1) lines none) (is_long line)
  where
    rest : List Part
    rest = parts_in None (before + 1) lines

    opened : Option Section → List Part
    opened o = part_by o (before + 1) (words_of line) (λ section. parts_in (Some section) (before + 1) lines) rest

    alone : (o : Option Section) → section_opened (before + 1) (words_of line) ≡ o → SaysSo (told.negative_by (words_of line)) (negative_then head (opened o))
    alone None e = by_words (words_of line) (before + 1) head rest none
    alone (Some section) e =
        let neither = section_neither (before + 1) (words_of line) section e in
        subst (λ (n : ℕ). SaysSo n (negative_then head (parts_in (Some section) (before + 1) lines))) (none ∙ sym (ap (λ (b : Bool). if b then or_none (negative_read (drop 1 (words_of line))) else 0) neither.negative))
        (negative_keeps head (parts_in (Some section) (before + 1) lines) (open_parts section (before + 1) lines))

    skips : SaysSo (negative_first (said lines)) (negative_then head rest) → (b : Bool) → SaysSo (negative_first (if not b then words_of line ∷ said lines else said lines)) (negative_then head (if b then rest else opened (section_opened (before + 1) (words_of line))))
    skips later true = later
    skips later false = alone (section_opened (before + 1) (words_of line)) refl

    by : SaysSo (negative_first (said lines)) (negative_then head rest) → (b : Bool) → SaysSo (negative_first (said (line ∷ lines))) (negative_then head (if b then Long (before + 1) ∷ [] else if are_skipped (words_of line) then rest else opened (section_opened (before + 1) (words_of line))))
    by later true = tt
    by later false = skips later (are_skipped (words_of line))

checked_none : (limits own : Limits) → own.negative ≡ 0 → checked own ≡ Some limits → limits.negative ≡ 0
checked_none limits own zero e = by (is_in_range own) refl
  where
    by : (b : Bool) → is_in_range own ≡ b → limits.negative ≡ 0
    by true t = ap (λ (l : Limits). l.negative) (sym (some_injective (sym (ap (λ (b : Bool). if b then Some own else None) t) ∙ e))) ∙ zero
    by false t =
        let none : None ≡ Some limits = sym (ap (λ (b : Bool). if b then Some own else None) t) ∙ e in
        absurd cc

of_none : (mounts waiters tokens : Option ℕ) (limits : Limits) → limits_of mounts waiters tokens ≡ Some limits → limits.negative ≡ 0
of_none None waiters tokens limits e = absurd cc
of_none (Some m) None tokens limits e = absurd cc
of_none (Some m) (Some w) None limits e = absurd cc
of_none (Some m) (Some w) (Some t) limits e = checked_none limits (record { mounts = m; waiters = w; tokens = t; negative = 0 }) refl e

-- limits say nothing of failures
limits_none : (words : List (List ℕ)) (limits : Limits) → limits_read words ≡ Some limits → limits.negative ≡ 0
limits_none [] limits e = absurd cc
limits_none (a ∷ []) limits e = absurd cc
limits_none (a ∷ b ∷ []) limits e = absurd cc
limits_none (a ∷ b ∷ c ∷ []) limits e = of_none (u32_read a) (u32_read b) (u32_read c) limits e
limits_none (a ∷ b ∷ c ∷ d ∷ words) limits e = absurd cc

first : (before : ℕ) (lines : List (List ℕ)) → SaysSo (negative_in (said lines)) (limits_then no_head (parts_in None before lines))
first before [] = tt
first before (line ∷ lines) = by (first (before + 1) lines) (is_long line)
  where
    rest : List Part
    rest = parts_in None (before + 1) lines

    opened : Option Section → List Part
    opened o = part_by o (before + 1) (words_of line) (λ section. parts_in (Some section) (before + 1) lines) rest

    limited : (limits : Option Limits) → limits_read (drop 1 (words_of line)) ≡ limits → SaysSo (negative_first (said lines)) (limits_by limits (before + 1) no_head rest)
    limited None e = tt
    limited (Some limits) e = second (record no_head { limits = limits }) (before + 1) lines (limits_none (drop 1 (words_of line)) limits e)

    which : (b : Bool) → SaysSo (if b then negative_first (said lines) else told.negative_by (words_of line)) (if b then limits_by (limits_read (drop 1 (words_of line))) (before + 1) no_head rest else negative_then no_head (Alone (before + 1) (words_of line) ∷ rest))
    which true = limited (limits_read (drop 1 (words_of line))) refl
    which false = by_words (words_of line) (before + 1) no_head rest refl

    alone : (o : Option Section) → section_opened (before + 1) (words_of line) ≡ o → SaysSo (negative_in (words_of line ∷ said lines)) (limits_then no_head (opened o))
    alone None e = which (is_limits (words_of line))
    alone (Some section) e =
        subst (λ (n : ℕ). SaysSo n (limits_then no_head (parts_in (Some section) (before + 1) lines))) (sym (tells_none (words_of line) (said lines) (section_neither (before + 1) (words_of line) section e)))
        (limits_keep no_head (parts_in (Some section) (before + 1) lines) (open_parts section (before + 1) lines))

    skips : SaysSo (negative_in (said lines)) (limits_then no_head rest) → (b : Bool) → SaysSo (negative_in (if not b then words_of line ∷ said lines else said lines)) (limits_then no_head (if b then rest else opened (section_opened (before + 1) (words_of line))))
    skips later true = later
    skips later false = alone (section_opened (before + 1) (words_of line)) refl

    by : SaysSo (negative_in (said lines)) (limits_then no_head rest) → (b : Bool) → SaysSo (negative_in (said (line ∷ lines))) (limits_then no_head (if b then Long (before + 1) ∷ [] else if are_skipped (words_of line) then rest else opened (section_opened (before + 1) (words_of line))))
    by later true = tt
    by later false = skips later (are_skipped (words_of line))

-- ---- the script

opened_limits : (head : Head) (maps : Result (List (List Row)) ScriptFault) (number : ℕ) (rest : Told) (opening : Setup) → (begun_by (opening_with head maps) number rest).opening ≡ Some opening → opening.limits.negative ≡ head.limits.negative
opened_limits head (Ok maps) number rest opening e = ap (λ (o : Setup). o.limits.negative) (sym (some_injective e))
opened_limits head (Err fault) number rest opening e = absurd cc

by_head : (n : ℕ) (broke : Option ScriptFaultKind) (lines : List (List ℕ)) (headed : Headed) → SaysSo n headed → LastFor n (script_by broke lines headed)
by_head n broke lines (Begins head number) h = λ opening e.
    h ∙ sym (opened_limits head (maps_read head.maps head.master.first head.master.rows) number _ opening e)
by_head n None lines (Ends section) h = λ opening e. absurd cc
by_head n (Some kind) lines (Ends section) h = λ opening e. absurd cc
by_head n broke lines (Faulty fault) h = λ opening e. absurd cc

-- failures last in the script of these lines as long as those tell
pub last_for : (broke : Option ScriptFaultKind) (lines : List (List ℕ)) → LastFor (negative_in (said lines)) (script_from broke lines)
last_for broke lines = by_head (negative_in (said lines)) broke lines (head_of (parts_of_lines lines)) (first 0 lines)

-- so they do in a script of this text, which was read to its end
pub of_whole : (broke : Option ScriptFaultKind) (text all : List ℕ) (n : ℕ) → broke ≡ None → text ≡ all → n ≡ negative_in (said (lines_of text)) → LastFor n (script_of broke all)
of_whole broke text all n none same e =
    subst (λ (b : Option ScriptFaultKind). LastFor n (script_of b all)) (sym none)
    (subst (λ (m : ℕ). LastFor m (script_of None all)) (sym (e ∙ ap (λ (t : List ℕ). negative_in (said (lines_of t))) same))
    (last_for None (lines_of all)))

-- and in one that broke off, without the line that was cut
pub of_cut : (broke : Option ScriptFaultKind) (kind : ScriptFaultKind) (text all cut : List ℕ) (n : ℕ) → broke ≡ Some kind → text ≡ all → cut ≡ cut_line text → n ≡ negative_in (said (lines_of (take (length text - length cut) text))) → LastFor n (script_of broke all)
of_cut broke kind text all cut n some same e f =
    let cut_is : take (length text - length cut) text ≡ played (Some kind) all =
    ap (λ (c : List ℕ). take (length text - length c) text) e ∙ ap (λ (t : List ℕ). take (length t - length (cut_line t)) t) same in
    subst (λ (b : Option ScriptFaultKind). LastFor n (script_of b all)) (sym some)
    (subst (λ (m : ℕ). LastFor m (script_of (Some kind) all)) (sym (f ∙ ap (λ (t : List ℕ). negative_in (said (lines_of t))) cut_is))
    (last_for (broken (Some kind) all) (lines_of (played (Some kind) all))))
