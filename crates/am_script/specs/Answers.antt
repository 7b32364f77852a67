-- How answers are written: own choice (docs/FORMATS.md, "Answer lines").
use Rattle.std.specs.Prelude.{ℕ, Bool, true, false, ◌==◌, List, [], ◌∷◌, ◌++◌, length, codes, decimal, Option, None, Some, if◌then◌else◌}
use Rattle.std.specs.List.{flat_map}
use Rattle.am_names.specs.{errno_number, text_of}
use Rattle.am_group.specs.{MountState}
use Rattle.am_group.specs.declared.mount_state.MountState.TheVariants.{Shared, Slave, SharedSlave, Private, Unbindable}
use Rattle.am_state.specs.{Record}
use Rattle.am_state.specs.declared.daemon_row.Record.TheVariants.{Mounting, Mounted, Unmounting}
use Rattle.am_machine.specs.{Answer}
use Rattle.am_machine.specs.declared.answer.Answer.TheVariants as answers

-- the names below the mount's root, each behind a slash; the root is one slash
abbrev pub place_text : List (List ℕ) → List ℕ
place_text place = if length (text_of place) == 0 then codes "/" else text_of place

-- the state of a mount
abbrev pub kind_text : MountState → List ℕ
kind_text Shared = codes "shared"
kind_text Slave = codes "slave"
kind_text SharedSlave = codes "shared-slave"
kind_text Private = codes "private"
kind_text Unbindable = codes "unbindable"

-- numbers of mounts, each behind a blank
abbrev pub mounts_text : List ℕ → List ℕ
mounts_text mounts = flat_map (λ mount. codes " " ++ decimal mount) mounts

-- a record of the book
abbrev pub record_text : Record → List ℕ
record_text (Mounting token) = codes "mounting " ++ decimal token
record_text (Mounted mount) = codes "mounted " ++ decimal mount
record_text (Unmounting token mount) =
    codes "unmounting " ++ decimal token ++ (codes " " ++ decimal mount)

-- what the book says of a trigger
abbrev pub entry_text : Option Record → List ℕ
entry_text None = codes "none"
entry_text (Some entry) = record_text entry

-- what an answer says
abbrev pub answer_text : Answer → List ℕ
answer_text (answers.Attached fs attach mount) =
    codes "fs " ++ decimal fs ++ (codes " attach " ++ decimal attach ++ (codes " mount " ++ decimal mount))
answer_text (answers.Mount mount) = codes "mount " ++ decimal mount
answer_text (answers.Gone mounts) = codes "gone" ++ mounts_text mounts
answer_text answers.Done = codes "ok"
answer_text (answers.Kind kind) = codes "kind " ++ kind_text kind
answer_text (answers.Namespace ns) = codes "ns " ++ decimal ns
answer_text (answers.At position) =
    codes "at " ++ decimal position.mount ++ (codes " " ++ place_text position.place)
answer_text (answers.Wait token) = codes "wait " ++ decimal token
answer_text answers.Expired = codes "expired"
answer_text (answers.Job job) = codes "job " ++ decimal job
answer_text answers.DidMkdir = codes "did mkdir"
answer_text (answers.DidMount mount) = codes "did mount " ++ decimal mount
answer_text answers.DidUmount = codes "did umount"
answer_text answers.DidRmdir = codes "did rmdir"
answer_text answers.DidRecord = codes "did record"
answer_text answers.DidReply = codes "did reply"
answer_text answers.FailedMount = codes "failed mount"
answer_text answers.FailedUmount = codes "failed umount"
answer_text (answers.Reattached attach) = codes "attach " ++ decimal attach
answer_text (answers.Record entry) = codes "record " ++ entry_text entry
answer_text (answers.Refused errno) = codes "err " ++ decimal (errno_number errno)
answer_text (answers.Failed errno) = codes "fail " ++ decimal (errno_number errno)

-- the line that is written for an answer
abbrev pub answer_line : Answer → List ℕ
answer_line answer = answer_text answer ++ 10 ∷ []

-- nothing was done
abbrev pub is_refused : Answer → Bool
is_refused (answers.Refused errno) = true
is_refused answer = false
