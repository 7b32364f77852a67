-- The lines of a script from one of them on.
use Rattle.std.proofs.Common.{◌≡◌, ℕ, zero, suc, ◌+◌, ◌-◌, ◌<◌, ◌≤◌, List, [], ◌∷◌, length, drop, Option, Some, refl, sym, ap, subst, arith, ◌∙◌}
use Rattle.std.proofs.lemmas.List.{drop-drop}
use Rattle.std.proofs.lemmas.List.Splits.{length-slice_split}
use Rattle.am_lines.specs.{is_line_feed, words_of}
use Rattle.am_map.specs.declared.fault.MapFaultKind.{MapFaultKind}
use Rattle.am_master.specs.declared.fault.MasterFaultKind.{MasterFaultKind}
use Rattle.am_script.specs.Lines.{lines_of}
use Rattle.am_script.specs.declared.fault.ScriptFaultKind.TheVariants.{BadMaster, BadMap, NoSuchMap}
use Rattle.am_diagnosis.specs.declared.expected.Expected.TheVariants.{KnownMap}
use Rattle.am_diagnosis.specs.declared.expected.Slip.{Slip}
use Rattle.am_diagnosis.specs.declared.misfit.Misfit.{Misfit}
use Rattle.am_diagnosis.specs.Columns.{IsSlipOf}
use Rattle.am_diagnosis.specs.Maps.{joined_in, map_misfit, master_misfit}
use Rattle.am_diagnosis.specs.Misfits.{misfit_at}
use Rattle.am_diagnosis.specs.Scripts.{lines_at, IsSlipIn}

pub lines_at_is : (number : ℕ) (lines : List (List ℕ)) → 0 < number → lines_at number lines ≡ drop (number - 1) lines
lines_at_is zero lines h = absurd (omega arith)
lines_at_is (suc above) lines h =
    let same : above ≡ suc above - 1 = omega arith in
    ap (λ (n : ℕ). drop n lines) same

pub drop_nil : (n : ℕ) → drop {A = List ℕ} n [] ≡ []
drop_nil zero = refl
drop_nil (suc n) = refl

-- behind the last line there is none
pub none_past : (m n : ℕ) (lines : List (List ℕ)) → drop m lines ≡ [] → m ≤ n → drop n lines ≡ []
none_past m n lines none h =
    let far : n ≡ m + (n - m) = omega arith in
    ap (λ (k : ℕ). drop k lines) far ∙ sym (drop-drop (n - m) m lines) ∙ ap (drop (n - m)) none ∙ drop_nil (n - m)

some_line : (text : List ℕ) → 0 < length (lines_of text)
some_line text = omega (arith, length-slice_split is_line_feed text)

master_of_lines : (kind : MasterFaultKind) (lines : List (List ℕ)) (slip : Option Slip) → 0 < length lines → IsSlipOf (joined_in lines) (master_misfit kind (words_of (joined_in lines))) slip → IsSlipIn (BadMaster kind) lines slip
master_of_lines kind [] slip some h = absurd (omega arith)
master_of_lines kind (line ∷ below) slip some h = h

map_of_lines : (kind : MapFaultKind) (lines : List (List ℕ)) (slip : Option Slip) → 0 < length lines → IsSlipOf (joined_in lines) (map_misfit kind (words_of (joined_in lines))) slip → IsSlipIn (BadMap kind) lines slip
map_of_lines kind [] slip some h = absurd (omega arith)
map_of_lines kind (line ∷ below) slip some h = h

unknown_of_lines : (lines : List (List ℕ)) (slip : Option Slip) → 0 < length lines → IsSlipOf (joined_in lines) (Some (misfit_at 1 KnownMap)) slip → IsSlipIn NoSuchMap lines slip
unknown_of_lines [] slip some h = absurd (omega arith)
unknown_of_lines (line ∷ below) slip some h = h

pub master_slip : (kind : MasterFaultKind) (text : List ℕ) (slip : Option Slip) (line : List ℕ) (misfit : Option Misfit) → line ≡ joined_in (lines_of text) → misfit ≡ master_misfit kind (words_of line) → IsSlipOf line misfit slip → IsSlipIn (BadMaster kind) (lines_of text) slip
master_slip kind text slip line misfit same is h =
    master_of_lines kind (lines_of text) slip (some_line text)
    (subst (λ (l : List ℕ). IsSlipOf l (master_misfit kind (words_of l)) slip) same (subst (λ (m : Option Misfit). IsSlipOf line m slip) is h))

pub map_slip : (kind : MapFaultKind) (text : List ℕ) (slip : Option Slip) (line : List ℕ) (misfit : Option Misfit) → line ≡ joined_in (lines_of text) → misfit ≡ map_misfit kind (words_of line) → IsSlipOf line misfit slip → IsSlipIn (BadMap kind) (lines_of text) slip
map_slip kind text slip line misfit same is h =
    map_of_lines kind (lines_of text) slip (some_line text)
    (subst (λ (l : List ℕ). IsSlipOf l (map_misfit kind (words_of l)) slip) same (subst (λ (m : Option Misfit). IsSlipOf line m slip) is h))

pub unknown_slip : (text : List ℕ) (slip : Option Slip) (line : List ℕ) (misfit : Misfit) → line ≡ joined_in (lines_of text) → misfit ≡ misfit_at 1 KnownMap → IsSlipOf line (Some misfit) slip → IsSlipIn NoSuchMap (lines_of text) slip
unknown_slip text slip line misfit same is h =
    unknown_of_lines (lines_of text) slip (some_line text)
    (subst (λ (l : List ℕ). IsSlipOf l (Some (misfit_at 1 KnownMap)) slip) same (subst (λ (m : Misfit). IsSlipOf line (Some m) slip) is h))
