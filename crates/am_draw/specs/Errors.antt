-- The words of errors, and how an event went by its answer (docs/FORMATS.md, "Error numbers").
use Rattle.std.specs.Prelude.{List, ℕ, [], ◌++◌, codes}
use Rattle.am_names.specs.declared.errno.Errno.{Errno}
use Rattle.am_names.specs.declared.errno.Errno.TheVariants.{ENOENT, EPERM, EBUSY, EEXIST, EINVAL, EAGAIN, ELOOP, ENAMETOOLONG, ENOSPC, NoMemory, NotReleased, Stranger}
use Rattle.am_machine.specs.{Answer}
use Rattle.am_machine.specs.declared.answer.Answer.TheVariants as answers
use Rattle.am_script.specs.{answer_text}
use Rattle.am_draw.specs.declared.went.Went.{Went}
use Rattle.am_draw.specs.declared.went.Went.TheVariants.{Well, Failed, Refused}

-- the word of an error
abbrev pub error_word : Errno → List ℕ
error_word ENOENT = codes "ENOENT"
error_word EPERM = codes "EPERM"
error_word EBUSY = codes "EBUSY"
error_word EEXIST = codes "EEXIST"
error_word EINVAL = codes "EINVAL"
error_word EAGAIN = codes "EAGAIN"
error_word ELOOP = codes "ELOOP"
error_word ENAMETOOLONG = codes "ENAMETOOLONG"
error_word ENOSPC = codes "ENOSPC"
error_word NoMemory = codes "NoMemory"
error_word NotReleased = codes "NotReleased"
error_word Stranger = codes "Stranger"

-- the word of the error that an answer tells, behind a blank
abbrev pub error_words : Answer → List ℕ
error_words (answers.Refused error) = codes " " ++ error_word error
error_words (answers.Failed error) = codes " " ++ error_word error
error_words answer = []

-- an answer, with the word of its error
abbrev pub answer_words : Answer → List ℕ
answer_words answer = answer_text answer ++ error_words answer

-- how an event went
abbrev pub went_of : Answer → Went
went_of (answers.Refused error) = Refused
went_of (answers.Failed error) = Failed
went_of answer = Well

-- an answer that refuses, or tells of a failure, looks otherwise
abbrev pub answer_class : Went → List ℕ
answer_class Well = codes "m"
answer_class Failed = codes "m failed"
answer_class Refused = codes "m refused"

-- one whose event fails, or is refused, has another mark
abbrev pub mark_of : List ℕ → Went → List ℕ
mark_of symbol Well = symbol
mark_of symbol Failed = codes "fails"
mark_of symbol Refused = codes "refused"
