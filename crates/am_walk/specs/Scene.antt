-- What a walk looks at (autofs.rst, "Mount Traps").
use Rattle.std.specs.Prelude.{ℕ, Bool, true, false, not, List, [], ◌∷◌, Option, Some, None}
use Rattle.std.specs.Option.{option_map, option_and_then}
use Rattle.am_names.specs.declared.fail_no.FailNo.{FailNo}
use Rattle.am_names.specs.{MountRow, OpenToken}
use Rattle.am_names.specs.declared.trigger.Trigger.{Trigger}
use Rattle.am_mount.specs.{mount_row}
use Rattle.am_propagate.specs.MountTable.{MountTable}
use Rattle.am_trigger.specs.{Autofs, TriggerRows, autofs_of}
use Rattle.am_wait.specs.{WaitRows}

-- the mounts, the mount traps, the open tokens, and the failures that last
pub record Scene : Type 0 where
  pub mounts : List MountRow
  pub triggers : TriggerRows
  -- the open tokens; none where the mount traps are off
  pub tokens : Option (List OpenToken)
  -- the error of what failed at a trigger, while that lasts
  pub failing : Trigger → Option FailNo

-- what a walker looks at: the mount traps are on
abbrev pub with_traps : MountTable → TriggerRows → WaitRows → (Trigger → Option FailNo) → Scene
with_traps subtree triggers waits failing = record {
  mounts = subtree.rows;
  triggers = triggers;
  tokens = Some waits.tokens;
  failing = failing;
}

-- what an administrator looks at: own choice (docs/DECISIONS.md, "An administrator's path is
-- followed with the traps off")
abbrev pub without_traps : MountTable → TriggerRows → Scene
without_traps subtree triggers = record {
  mounts = subtree.rows;
  triggers = triggers;
  tokens = None;
  failing = λ trigger. None;
}

-- the autofs of which a mount is a mount, if it is one
abbrev pub autofs_at : Scene → ℕ → Option Autofs
autofs_at scene mount =
    option_and_then (λ fs. autofs_of scene.triggers fs)
    (option_map (λ row. row.fs) (mount_row scene.mounts mount))

-- own choice (docs/DECISIONS.md, "A plain file system has every name as a directory") Below an
-- autofs there are names at the root of an indirect one alone, where nothing is mounted.
abbrev pub has_names : Option Autofs → List (List ℕ) → Bool
has_names None place = true
has_names (Some row) [] = not row.direct
has_names (Some row) (name ∷ place) = false
