-- What walkers leave in the kernel. Since paths are names, each trigger that the daemon is asked for
-- has a name, and so its packet can be read; and who waits on a mount has the walk that led there
-- (own choice).
use Rattle.std.specs.Prelude.{◌≡◌, ℕ, ◌==◌, Bool, true, List, Option, None, Some}
use Rattle.std.specs.List.{list_any, All}
use Rattle.am_names.specs.{is_name, OpenToken, WaitRow}
use Rattle.am_names.specs.declared.trigger.Trigger.{Trigger}
use Rattle.am_names.specs.declared.row.TokenKind.TheVariants.{Missing}
use Rattle.am_kernel.specs.{WalkRow, KernelState}
use Rattle.am_machine.specs.Paths.{IsPath}

-- there is no name, or it is one
abbrev pub is_name_if_any : Option (List ℕ) → Bool
is_name_if_any None = true
is_name_if_any (Some name) = is_name name

-- its name is one, if it has any
abbrev pub is_named : Trigger → Bool
is_named trigger = is_name_if_any trigger.name

-- the walker began a walk, which goes on once its token is acknowledged
abbrev pub has_walk : List WalkRow → ℕ → Bool
has_walk walks walker = list_any (λ row. row.walker == walker) walks

-- who waits on a mount has a walk; who asked for an expiry has none
abbrev pub HasWalk : List WalkRow → WaitRow → Type 0
HasWalk walks row = row.kind ≡ Missing → has_walk walks row.walker ≡ true

-- the triggers of open tokens, of waits and of last uses are named, each walk goes along a path, and
-- none is missing
pub record WalksFit (k : KernelState) : Type 0 where
  pub tokens : All (λ (row : OpenToken). is_named row.trigger ≡ true) k.waits.tokens
  pub waits : All (λ (row : WaitRow). is_named row.trigger ≡ true) k.waits.waits
  pub used : All (λ (row : Trigger × ℕ). is_named row.0 ≡ true) k.triggers.uses
  pub walks : All (λ (row : WalkRow). IsPath row.path) k.walks
  pub began : All (HasWalk k.walks) k.waits.waits
