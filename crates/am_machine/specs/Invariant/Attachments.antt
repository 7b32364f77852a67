-- The numbers of attachments, of file systems and of jobs: what makes a new one new, and which of them
-- the daemon knows (own choice).
use Rattle.std.specs.Prelude.{◌≡◌, ◌≤◌, ℕ, ◌+◌, ◌==◌, Bool, true, List, [], ◌∷◌}
use Rattle.std.specs.List.{list_any, All}
use Rattle.am_state.specs.{HeldRow, KnownRow, RecordRow}
use Rattle.am_trigger.specs.{Autofs}
use Rattle.am_kernel.specs.{Attached, KernelState}
use Rattle.am_daemon.specs.{DaemonState, JobPlan}

-- the file systems rise from this number on, each has one row, and all were given
abbrev pub RiseTo : ℕ → ℕ → List Attached → Type 0
RiseTo last low [] = Unit {0}
RiseTo last low (row ∷ rows) = (low ≤ row.fs) × (row.fs ≤ last) × RiseTo last (row.fs + 1) rows

-- the daemon was attached to the file system
abbrev pub is_known : List KnownRow → ℕ → Bool
is_known known fs = list_any (λ row. row.fs == fs) known

-- the file system was given an attachment
abbrev pub was_attached : List Attached → ℕ → Bool
was_attached attached fs = list_any (λ row. row.fs == fs) attached

-- The daemon knows each autofs, which has an attachment, and all that it holds.
pub record AreKnown (autofs : List Autofs) (attached : List Attached) (known : List KnownRow) (held : List HeldRow) : Type 0 where
  pub autofs_known : All (λ (row : Autofs). is_known known row.fs ≡ true) autofs
  pub autofs_attached : All (λ (row : Autofs). was_attached attached row.fs ≡ true) autofs
  pub held_known : All (λ (row : HeldRow). is_known known row.fs ≡ true) held

-- all numbers of file systems and attachments were given, and the daemon knows what it serves
pub record NumbersAreAllocated (k : KernelState) (d : DaemonState) : Type 0 where
  -- each autofs has one attachment, the latest
  pub rise : RiseTo k.last_fs 0 k.attached
  pub attached : All (λ (row : Attached). row.attach ≤ k.last_attach) k.attached
  pub autofs : All (λ (row : Autofs). row.fs ≤ k.last_fs) k.triggers.autofs
  pub known : All (λ (row : KnownRow). row.fs ≤ k.last_fs) d.known
  pub jobs : All (λ (row : JobPlan). (row.attach ≤ k.last_attach) × (row.trigger.fs ≤ k.last_fs)) d.jobs
  pub book : All (λ (row : RecordRow). row.trigger.fs ≤ k.last_fs) d.book
  pub familiar : AreKnown k.triggers.autofs k.attached d.known d.held
