-- The words of the errors that an answer tells by their numbers (docs/FORMATS.md, "Error numbers").
use Rattle.std.specs.Prelude.{◌≡◌, ◌≢◌, ◌⊎◌, ℕ, List, [], codes}
use Rattle.am_names.specs.{errno_number}
use Rattle.am_names.specs.declared.errno.Errno.{Errno}
use Rattle.am_names.specs.declared.errno.Errno.TheVariants.{ENOENT, EPERM, EBUSY, EEXIST, EINVAL, EAGAIN, ELOOP, ENAMETOOLONG, ENOSPC, NoMemory, NotReleased, Stranger}

-- its word
abbrev pub error_word : Errno → List ℕ
error_word ENOENT = codes "ENOENT"
error_word EPERM = codes "EPERM"
error_word EBUSY = codes "EBUSY"
error_word EEXIST = codes "EEXIST"
error_word EINVAL = codes "EINVAL"
error_word EAGAIN = codes "EAGAIN"
error_word ELOOP = codes "ELOOP"
error_word ENAMETOOLONG = codes "ENAMETOOLONG"
error_word ENOSPC = codes "ENOSPC"
error_word NoMemory = codes "NoMemory"
error_word NotReleased = codes "NotReleased"
error_word Stranger = codes "Stranger"

-- it is the word of the error with this number; there is none where no error has it
abbrev pub IsWordOf : ℕ → List ℕ → Type 0
IsWordOf number word =
    ((error : Errno) × (errno_number error ≡ number) × (word ≡ error_word error))
    ⊎ (((error : Errno) → errno_number error ≢ number) × (word ≡ []))
