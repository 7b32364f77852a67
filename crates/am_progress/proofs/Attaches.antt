-- Each attachment is one file system's, so that a reply finds the file system of its job.
use Rattle.std.proofs.Common.{◌≡◌, ◌≤◌, ◌<◌, ◌+◌, ℕ, Bool, true, false, List, [], ◌∷◌, ◌++◌, map, Option, Some, None, refl, sym, ap, subst, ◌∙◌, arith}
use Rattle.std.specs.Prelude.{◌==◌, ◌&&◌, find, if◌then◌else◌}
use Rattle.std.specs.Option.{option_map}
use Rattle.std.specs.List.{All}
use Rattle.std.proofs.lemmas.List.Elements.{All-nil, All-cons, All-head, All-tail, All-push, All-map, All-weaker}
use Rattle.am_names.proofs.Basics.{both_of_and, equal_by_test, value_where_some, found_passes}
use Rattle.am_kernel.specs.{Attached, KernelState, is_live, is_attached_by, fs_of_attach, is_current, reattached_row}
use Rattle.am_machine.proofs.Lists.Different.{all_found, found_none}
use Rattle.am_machine.proofs.Attachments.Known.{any_found}

-- another row with the attachment is of the same file system
abbrev pub IsOfOne : Attached → Attached → Type 0
IsOfOne row other = other.attach ≡ row.attach → other.fs ≡ row.fs

abbrev pub AreOfOne : List Attached → Type 0
AreOfOne [] = Unit {0}
AreOfOne (row ∷ rows) = All (IsOfOne row) rows × AreOfOne rows

abbrev IsGiven : ℕ → Attached → Type 0
IsGiven last row = row.attach ≤ last

-- ---- it stays so

pub one_push : (rows : List Attached) (new : Attached) (last : ℕ) → AreOfOne rows → All (IsGiven last) rows → last < new.attach → AreOfOne (rows ++ new ∷ [])
one_push [] new last h given later = (All-nil (IsOfOne new), tt)
one_push (row ∷ rows) new last h given later =
    let low = All-head (IsGiven last) row rows given in
    (All-push (IsOfOne row) rows new h.0 (λ same. omega (arith, same, low, later)), one_push rows new last h.1 (All-tail (IsGiven last) row rows given) later)

-- rows that keep their attachment and their file system
pub one_same : (change : Attached → Attached) (rows : List Attached) → ((row : Attached) → (change row).attach ≡ row.attach) → ((row : Attached) → (change row).fs ≡ row.fs) → AreOfOne rows → AreOfOne (map change rows)
one_same change [] attach fs h = tt
one_same change (row ∷ rows) attach fs h = (
  All-map (IsOfOne (change row)) change rows
      (All-weaker (IsOfOne row) (λ (r : Attached). IsOfOne (change row) (change r)) (λ r one same. fs r ∙ one (sym (attach r) ∙ same ∙ attach row) ∙ sym (fs row)) rows h.0),
  one_same change rows attach fs h.1,
)

piped_by_cases : (fs last : ℕ) (row other : Attached) (b c : Bool) → (row.fs == fs) ≡ b → (other.fs == fs) ≡ c → row.attach ≤ last → other.attach ≤ last → IsOfOne row other →
    (if c then record other { attach = last + 1 } else other).attach ≡ (if b then record row { attach = last + 1 } else row).attach → (if c then record other { attach = last + 1 } else other).fs ≡ (if b then record row { attach = last + 1 } else row).fs
piped_by_cases fs last row other true true is its low lower one same = equal_by_test other.fs fs its ∙ sym (equal_by_test row.fs fs is)
piped_by_cases fs last row other true false is its low lower one same = omega (arith, same, lower)
piped_by_cases fs last row other false true is its low lower one same = omega (arith, same, low)
piped_by_cases fs last row other false false is its low lower one same = one same

piped_all : (fs last : ℕ) (row : Attached) (rows : List Attached) → row.attach ≤ last → All (IsGiven last) rows → All (IsOfOne row) rows → All (IsOfOne (reattached_row fs (last + 1) row)) (map (reattached_row fs (last + 1)) rows)
piped_all fs last row [] low given h = All-nil (IsOfOne (reattached_row fs (last + 1) row))
piped_all fs last row (other ∷ rows) low given h =
    All-cons (IsOfOne (reattached_row fs (last + 1) row)) (reattached_row fs (last + 1) other) (map (reattached_row fs (last + 1)) rows)
    (λ same. piped_by_cases fs last row other (row.fs == fs) (other.fs == fs) refl refl low (All-head (IsGiven last) other rows given) (All-head (IsOfOne row) other rows h) same)
    (piped_all fs last row rows low (All-tail (IsGiven last) other rows given) (All-tail (IsOfOne row) other rows h))

-- one file system has a new attachment
pub one_piped : (fs last : ℕ) (rows : List Attached) → AreOfOne rows → All (IsGiven last) rows → AreOfOne (map (reattached_row fs (last + 1)) rows)
one_piped fs last [] h given = tt
one_piped fs last (row ∷ rows) h given =
    let rest = All-tail (IsGiven last) row rows given in
    (piped_all fs last row rows (All-head (IsGiven last) row rows given) rest h.0, one_piped fs last rows h.1 rest)

-- ---- what it is for

same_by_cases : (test : Attached → Bool) (x row : Attached) (rows : List Attached) (b : Bool) → All (IsOfOne x) rows → (find test rows ≡ Some row → All (IsOfOne row) rows) → (if b then Some x else find test rows) ≡ Some row → All (IsOfOne row) (x ∷ rows)
same_by_cases test x row rows true one later e =
    let same : x ≡ row = cc in
    subst (λ (r : Attached). All (IsOfOne r) (x ∷ rows)) same (All-cons (IsOfOne x) x rows (λ e. refl) one)
same_by_cases test x row rows false one later e =
    All-cons (IsOfOne row) x rows (λ same. sym (all_found (IsOfOne x) test rows row one e (sym same))) (later e)

-- all rows with the attachment of one that is found are of its file system
all_same : (test : Attached → Bool) (rows : List Attached) (row : Attached) → AreOfOne rows → find test rows ≡ Some row → All (IsOfOne row) rows
all_same test [] row h e = absurd cc
all_same test (x ∷ rows) row h e = same_by_cases test x row rows (test x) h.0 (all_same test rows row h.1) e

fs_by_cases : (k : KernelState) (fs attach : ℕ) (row : Attached) (o : Option Attached) → find (λ (r : Attached). is_attached_by k attach r) k.attached ≡ o → (o ≡ None → ⊥) → row.fs ≡ fs → row.attach ≡ attach → All (IsOfOne row) k.attached → option_map (λ (r : Attached). r.fs) o ≡ Some fs
fs_by_cases k fs attach row None is some its own h = absurd (some refl)
fs_by_cases k fs attach row (Some other) is some its own h =
    let passes = both_of_and (other.attach == attach) (is_live k other.fs) (found_passes (λ (r : Attached). is_attached_by k attach r) k.attached other is) in
    ap (λ (n : ℕ). Some n) (all_found (IsOfOne row) (λ (r : Attached). is_attached_by k attach r) k.attached other h is (equal_by_test other.attach attach passes.0 ∙ sym own) ∙ its)

-- the current attachment of a file system is of no other
pub fs_of_current : (k : KernelState) (fs attach : ℕ) → AreOfOne k.attached → is_current k fs attach ≡ true → fs_of_attach k attach ≡ Some fs
fs_of_current k fs attach h e =
    let test : Attached → Bool = λ row. row.fs == fs && is_attached_by k attach row in
    let found = value_where_some (find test k.attached) (any_found test k.attached e) in
    let passes = both_of_and (found.0.fs == fs) (is_attached_by k attach found.0) (found_passes test k.attached found.0 found.1) in
    let lives = both_of_and (found.0.attach == attach) (is_live k found.0.fs) passes.1 in
    fs_by_cases k fs attach found.0 (find (λ (r : Attached). is_attached_by k attach r) k.attached) refl
    (λ none. let no : is_attached_by k attach found.0 ≡ false = found_none (λ (r : Attached). is_attached_by k attach r) test k.attached found.0 none found.1 in let yes = passes.1 in absurd cc)
    (equal_by_test found.0.fs fs passes.0) (equal_by_test found.0.attach attach lives.0) (all_same test k.attached found.0 h found.1)
