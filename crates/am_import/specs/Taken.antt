-- The lines of a mountinfo, one by one. For the code alone: own choice.
use Rattle.std.specs.Prelude.{◌≡◌, ℕ, false, List, ◌∷◌, ◌++◌, ⊤, Some}
use Rattle.am_diagnosis.specs.{IsColumn}
use Rattle.am_lines.specs.{words_of}
use Rattle.am_mount_lines.specs.{Expected, LineFault, Misfit, MountLine, misfit_of}
use Rattle.am_mount_lines.specs.declared.misfit.LineFault.TheVariants as line_faults
use Rattle.am_script.specs.{are_skipped}
use Rattle.am_import.specs.declared.imports.ImportFault.{ImportFault}
use Rattle.am_import.specs.declared.imports.ImportFault.TheVariants.{BadLine, NoMemory}
use Rattle.am_import.specs.declared.imports.Mounts.{Mounts}
use Rattle.am_import.specs.Imported.{AreMounts, begins_space, mount_texts}

-- the line is taken: what it says of mounts is behind what was said before
pub record IsTaken (line : List ℕ) (old new : Mounts) : Type 0 where
  pub texts : List (ℕ × List ℕ)
  pub made : List MountLine
  pub are_read : AreMounts texts made
  pub behind : new.lines.items ≡ old.lines.items ++ made
  pub goes_on : (lines : List (List ℕ)) → mount_texts old.space old.is_used (line ∷ lines) ≡ texts ++ mount_texts new.space new.is_used lines

-- the line is to be a mount's, and has this misfit, at this column
pub record IsBadLine (line : List ℕ) (column : ℕ) (what : Expected) : Type 0 where
  pub no_heading : begins_space line ≡ false
  pub no_comment : are_skipped (words_of line) ≡ false
  pub misfit : Misfit
  pub misfit_is : misfit_of (words_of line) ≡ Some misfit
  pub at : IsColumn line misfit.place column
  pub expected_is : what ≡ misfit.expected

-- the line with this number isn't taken
abbrev pub IsNotTaken : ℕ → List ℕ → ImportFault → Type 0
IsNotTaken number line (BadLine other column what) = (other ≡ number) × IsBadLine line column what
IsNotTaken number line NoMemory = ⊤
IsNotTaken number line _ = ⊥

-- where this misfit of the line with this number is
pub record IsMisfitAt (number : ℕ) (line : List ℕ) (misfit : Misfit) (other column : ℕ) (what : Expected) : Type 0 where
  pub numbered : other ≡ number
  pub at : IsColumn line misfit.place column
  pub expected_is : what ≡ misfit.expected

-- the fault of a line with this number
abbrev pub IsFaultAt : ℕ → List ℕ → LineFault → ImportFault → Type 0
IsFaultAt number line (line_faults.Misfit misfit) (BadLine other column what) =
    IsMisfitAt number line misfit other column what
IsFaultAt number line (line_faults.Misfit misfit) _ = ⊥
IsFaultAt number line line_faults.NoMemory fault = fault ≡ NoMemory
