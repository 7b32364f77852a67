-- What a worker has to do outside the world (autofs.rst, "Content").
use Rattle.std.specs.Prelude.{◌≡◌, ⊤, ℕ, ◌==◌, List, [], ◌∷◌, ◌++◌, All, Any, Option, Some, None, if◌then◌else◌}
use Rattle.am_names.specs.declared.trigger.Trigger.{Trigger}
use Rattle.am_daemon.specs.{next_act_of, rows_of}
use Rattle.am_job.specs.{Act}
use Rattle.am_job.specs.declared.act.Act.TheVariants as acts
use Rattle.am_machine.specs.{Answer, Entry, Event}
use Rattle.am_machine.specs.declared.event.Event.TheVariants.{Attach}
use Rattle.am_machine.specs.declared.answer.Answer.TheVariants.{Attached}
use Rattle.am_shared.specs.{IsSharedFrom, Receipt}
use Rattle.am_shared.specs.Matching.{AllAgree}
use Rattle.am_shared.specs.Sharing.{Sharing}
use Rattle.am_machine.specs.{Setup}
use Rattle.am_runner.specs.declared.tasks.Task.{Task}
use Rattle.am_runner.specs.declared.tasks.Task.TheVariants as tasks

-- where this event, so answered, attached the daemon to a file system, if it did
abbrev pub attached_at : ℕ → Event → Answer → Option (List (List ℕ))
attached_at fs (Attach path) (Attached theirs attach mount) =
    if theirs == fs then Some path else None
attached_at fs event answer = None

-- the same of an entry of a history
abbrev pub point_at : ℕ → Entry → Option (List (List ℕ))
point_at fs e = attached_at fs e.event e.answer

-- a place, and behind it a name, if there is one
abbrev pub path_at : List (List ℕ) → Option (List ℕ) → List (List ℕ)
path_at point None = point
path_at point (Some name) = point ++ name ∷ []

-- the path of a trigger: where the daemon was attached to its file system, and the name behind that
pub record IsPathOf (history : List Entry) (trigger : Trigger) (path : List (List ℕ)) : Type 0 where
  pub point : List (List ℕ)
  pub attached : Any (λ e. point_at trigger.fs e ≡ Some point) history
  pub is_behind : path ≡ path_at point trigger.name

-- the daemon was never attached to this file system
abbrev pub IsNowhere : List Entry → ℕ → Type 0
IsNowhere history fs = All (λ e. point_at fs e ≡ None) history

-- the task of an act
abbrev pub IsTaskOf : List Entry → Act → Task → Type 0
IsTaskOf history (acts.Mount trigger entry) (tasks.Mount theirs path said) =
    (theirs ≡ trigger) × (said ≡ entry) × IsPathOf history trigger path
IsTaskOf history (acts.Mount trigger entry) tasks.Nowhere = IsNowhere history trigger.fs
IsTaskOf history (acts.Umount trigger) (tasks.Umount theirs path) =
    (theirs ≡ trigger) × IsPathOf history trigger path
IsTaskOf history (acts.Umount trigger) tasks.Nowhere = IsNowhere history trigger.fs
IsTaskOf history (acts.Mount trigger entry) task = ⊥
IsTaskOf history (acts.Umount trigger) task = ⊥
IsTaskOf history act tasks.Other = ⊤
IsTaskOf history act task = ⊥

-- the task of the next act of a job in a shared world, if that has one
abbrev pub IsNextIn : Sharing → ℕ → Option Task → Type 0
IsNextIn s job None = next_act_of job (rows_of s.world.daemon) ≡ None
IsNextIn s job (Some task) =
    (act : Act) × (next_act_of job (rows_of s.world.daemon) ≡ Some act)
    × IsTaskOf s.history act task

-- the same in a shared world that began with this opening, where whoever has these receipts looked
abbrev pub IsSeen : Setup → List Receipt → ℕ → Option Task → Type 0
IsSeen opening receipts job found =
    (s : Sharing) × IsSharedFrom opening s × AllAgree s.history receipts × IsNextIn s job found
