-- Three ways to say which attachment a file system has: its latest one, the file system of the
-- attachment, and that the attachment is current for the file system.
use Rattle.std.proofs.Common.{◌≡◌, ℕ, ◌+◌, ◌≤◌, Bool, true, false, cond, ◌==◌, ◌&&◌, ◌||◌, List, [], ◌∷◌, Option, Some, None, refl, sym, ap, subst, ◌∙◌, arith}
use Rattle.std.specs.Prelude.{find, if◌then◌else◌}
use Rattle.std.specs.Option.{option_map}
use Rattle.std.specs.List.{list_any, All}
use Rattle.std.proofs.lemmas.Bool.Decides.{nat_tests}
use Rattle.std.proofs.lemmas.List.Elements.{All-nil, All-cons, All-weaker}
use Rattle.am_kernel.specs.{Attached, KernelState, is_live, attach_of, is_attached_by, fs_of_attach, is_current}
use Rattle.am_names.proofs.Basics.{both_of_and, equal_to_itself, equal_by_test, found_passes, and_of_both}
use Rattle.am_machine.specs.{RiseTo}
use Rattle.am_machine.proofs.Lists.Different.{all_found}

-- ---- rows of different file systems

low_all : (last low : ℕ) (rows : List Attached) → RiseTo last low rows → All (λ (row : Attached). low ≤ row.fs) rows
low_all last low [] h = All-nil (λ (row : Attached). low ≤ row.fs)
low_all last low (row ∷ rows) h =
    All-cons (λ (r : Attached). low ≤ r.fs) row rows h.0
    (All-weaker (λ (r : Attached). row.fs + 1 ≤ r.fs) (λ (r : Attached). low ≤ r.fs) (λ r le. omega (arith, le, h.0)) rows (low_all last (row.fs + 1) rows h.2))

only_row_by_cases : (test : Attached → Bool) (last low : ℕ) (x row : Attached) (rows : List Attached) (b : Bool) → RiseTo last low (x ∷ rows) → (find test rows ≡ Some row → find (λ (r : Attached). r.fs == row.fs) rows ≡ Some row) → cond b (Some x) (find test rows) ≡ Some row →
    cond (x.fs == row.fs) (Some x) (find (λ (r : Attached). r.fs == row.fs) rows) ≡ Some row
only_row_by_cases test last low x row rows true h later e =
    let same : x ≡ row = cc in
    let here : (x.fs == row.fs) ≡ true = ap (λ (r : Attached). x.fs == r.fs) (sym same) ∙ equal_to_itself x.fs in
    rw here e
only_row_by_cases test last low x row rows false h later e =
    let above = all_found (λ (r : Attached). x.fs + 1 ≤ r.fs) test rows row (low_all last (x.fs + 1) rows h.2) e in
    let other : (x.fs == row.fs) ≡ false = grind (arith, nat_tests, above) in
    rw other (later e)

-- whatever finds a row, its file system finds the same
pub one_row : (test : Attached → Bool) (last low : ℕ) (rows : List Attached) (row : Attached) → RiseTo last low rows → find test rows ≡ Some row → find (λ (r : Attached). r.fs == row.fs) rows ≡ Some row
one_row test last low [] row h e = absurd cc
one_row test last low (x ∷ rows) row h e = only_row_by_cases test last low x row rows (test x) h (one_row test last (x.fs + 1) rows row h.2) e

-- ---- the file system of an attachment has it

fs_by_cases : (k : KernelState) (attach fs : ℕ) (o : Option Attached) → RiseTo k.last_fs 0 k.attached → find (λ (row : Attached). is_attached_by k attach row) k.attached ≡ o → option_map (λ (row : Attached). row.fs) o ≡ Some fs → attach_of k fs ≡ Some attach
fs_by_cases k attach fs None rise is e = absurd cc
fs_by_cases k attach fs (Some row) rise is e =
    let same : row.fs ≡ fs = cc in
    let passes = both_of_and (row.attach == attach) (is_live k row.fs) (found_passes (λ (r : Attached). is_attached_by k attach r) k.attached row is) in
    let here : find (λ (r : Attached). r.fs == row.fs) k.attached ≡ Some row = one_row (λ (r : Attached). is_attached_by k attach r) k.last_fs 0 k.attached row rise is in
    let its : attach_of k row.fs ≡ Some attach = ap (λ (b : Bool). if b then option_map (λ (r : Attached). r.attach) (find (λ (r : Attached). r.fs == row.fs) k.attached) else None) passes.1 ∙ ap (option_map (λ (r : Attached). r.attach)) here ∙ ap (λ (n : ℕ). Some n) (equal_by_test row.attach attach passes.0) in
    subst (λ (n : ℕ). attach_of k n ≡ Some attach) same its

pub attach_from_fs : (k : KernelState) (attach fs : ℕ) → RiseTo k.last_fs 0 k.attached → fs_of_attach k attach ≡ Some fs → attach_of k fs ≡ Some attach
attach_from_fs k attach fs rise e = fs_by_cases k attach fs (find (λ (row : Attached). is_attached_by k attach row) k.attached) rise refl e

-- ---- the current attachment is the latest

any_step : {X : Type 0} (test : X → Bool) (x : X) (rows : List X) (b : Bool) → test x ≡ b → (list_any test rows ≡ true → (row : X) × (find test rows ≡ Some row)) → (b || list_any test rows) ≡ true → (row : X) × (cond b (Some x) (find test rows) ≡ Some row)
any_step test x rows true t later e = (x, refl)
any_step test x rows false t later e = later e

any_finds : {X : Type 0} (test : X → Bool) (rows : List X) → list_any test rows ≡ true → (row : X) × (find test rows ≡ Some row)
any_finds test [] e = absurd cc
any_finds test (x ∷ rows) e = any_step test x rows (test x) refl (any_finds test rows) e

pub attach_from_current : (k : KernelState) (fs attach : ℕ) → RiseTo k.last_fs 0 k.attached → is_current k fs attach ≡ true → attach_of k fs ≡ Some attach
attach_from_current k fs attach rise e =
    let test = λ (row : Attached). row.fs == fs && is_attached_by k attach row in
    let row = any_finds test k.attached e in
    let passes = both_of_and (row.0.fs == fs) (is_attached_by k attach row.0) (found_passes test k.attached row.0 row.1) in
    let lives = both_of_and (row.0.attach == attach) (is_live k row.0.fs) passes.1 in
    let same : row.0.fs ≡ fs = equal_by_test row.0.fs fs passes.0 in
    let here : find (λ (r : Attached). r.fs == row.0.fs) k.attached ≡ Some row.0 = one_row test k.last_fs 0 k.attached row.0 rise row.1 in
    let its : attach_of k row.0.fs ≡ Some attach = ap (λ (b : Bool). if b then option_map (λ (r : Attached). r.attach) (find (λ (r : Attached). r.fs == row.0.fs) k.attached) else None) lives.1 ∙ ap (option_map (λ (r : Attached). r.attach)) here ∙ ap (λ (n : ℕ). Some n) (equal_by_test row.0.attach attach lives.0) in
    subst (λ (n : ℕ). attach_of k n ≡ Some attach) same its

-- ---- and the latest attachment is current

any_by_cases : {X : Type 0} (test other : X → Bool) (x row : X) (rows : List X) (b c : Bool) → other x ≡ c → other row ≡ true → (find test rows ≡ Some row → list_any other rows ≡ true) → cond b (Some x) (find test rows) ≡ Some row → (c || list_any other rows) ≡ true
any_by_cases test other x row rows true true t h later e = refl
any_by_cases test other x row rows true false t h later e = absurd (let same : x ≡ row = cc in let is : other x ≡ true = ap other same ∙ h in cc)
any_by_cases test other x row rows false true t h later e = refl
any_by_cases test other x row rows false false t h later e = later e

found_any : {X : Type 0} (test other : X → Bool) (rows : List X) (row : X) → find test rows ≡ Some row → other row ≡ true → list_any other rows ≡ true
found_any test other [] row e h = absurd cc
found_any test other (x ∷ rows) row e h = any_by_cases test other x row rows (test x) (other x) refl h (λ f. found_any test other rows row f h) e

current_by_cases : (k : KernelState) (fs attach : ℕ) (live : Bool) (o : Option Attached) → is_live k fs ≡ live → find (λ (r : Attached). r.fs == fs) k.attached ≡ o → (if live then option_map (λ (r : Attached). r.attach) o else None) ≡ Some attach → is_current k fs attach ≡ true
current_by_cases k fs attach false o l is e = absurd cc
current_by_cases k fs attach true None l is e = absurd cc
current_by_cases k fs attach true (Some row) l is e =
    let same : row.attach ≡ attach = cc in
    let passes : (row.fs == fs) ≡ true = found_passes (λ (r : Attached). r.fs == fs) k.attached row is in
    let here : (row.attach == attach) ≡ true = ap (λ (n : ℕ). n == attach) same ∙ equal_to_itself attach in
    let lives : is_live k row.fs ≡ true = ap (is_live k) (equal_by_test row.fs fs passes) ∙ l in
    found_any (λ (r : Attached). r.fs == fs) (λ (r : Attached). r.fs == fs && is_attached_by k attach r) k.attached row is
    (and_of_both (row.fs == fs) (is_attached_by k attach row) passes (and_of_both (row.attach == attach) (is_live k row.fs) here lives))

pub current_from_attach : (k : KernelState) (fs attach : ℕ) → attach_of k fs ≡ Some attach → is_current k fs attach ≡ true
current_from_attach k fs attach e = current_by_cases k fs attach (is_live k fs) (find (λ (r : Attached). r.fs == fs) k.attached) refl refl e
