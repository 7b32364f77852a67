-- The words by which a question says what answer it asks for: own choice (docs/FORMATS.md,
-- "Questions of a scene"; the answers themselves: "Answer lines").
use Rattle.std.specs.Prelude.{ℕ, ◌==◌, List, [], ◌∷◌, codes, bytes_eq, Option, None, Some, option_map, if◌then◌else◌}
use Rattle.std.specs.Option.{option_and_then}
use Rattle.std.specs.Result.{result_ok}
use Rattle.am_names.specs.{path_read}
use Rattle.am_names.specs.declared.errno.Errno.{Errno}
use Rattle.am_names.specs.declared.errno.Errno.TheVariants as errno
use Rattle.am_machine.specs.{Answer}
use Rattle.am_machine.specs.declared.answer.Answer.TheVariants as answers
use Rattle.am_script.specs.Numbers.{u8_read, u32_read, u64_read}
use Rattle.am_explore.specs.{Sought}
use Rattle.am_explore.specs.declared.question.Sought.TheVariants as sought_as

-- the error of this number, if there is one
abbrev pub errno_numbered : ℕ → Option Errno
errno_numbered n =
    if n == 1 then Some errno.ENOENT
    else if n == 2 then Some errno.EPERM
    else if n == 3 then Some errno.EBUSY
    else if n == 4 then Some errno.EEXIST
    else if n == 5 then Some errno.EINVAL
    else if n == 6 then Some errno.EAGAIN
    else if n == 7 then Some errno.ELOOP
    else if n == 8 then Some errno.ENAMETOOLONG
    else if n == 9 then Some errno.ENOSPC
    else if n == 10 then Some errno.NoMemory
    else if n == 11 then Some errno.NotReleased
    else if n == 12 then Some errno.Stranger
    else None

-- the error that these digits number
abbrev pub errno_read : List ℕ → Option Errno
errno_read digits = option_and_then errno_numbered (u8_read digits)

-- any answer that begins with this word
abbrev pub any_read : List ℕ → Option Sought
any_read word =
    if bytes_eq word (codes "wait") then Some sought_as.AnyWait
    else if bytes_eq word (codes "at") then Some sought_as.AnyAt
    else if bytes_eq word (codes "err") then Some sought_as.AnyRefused
    else if bytes_eq word (codes "fail") then Some sought_as.AnyFailed
    else None

-- the answer of this word and this number
abbrev pub numbered_read : List ℕ → List ℕ → Option Answer
numbered_read word digits =
    if bytes_eq word (codes "wait") then option_map answers.Wait (u32_read digits)
    else if bytes_eq word (codes "err") then option_map answers.Refused (errno_read digits)
    else if bytes_eq word (codes "fail") then option_map answers.Failed (errno_read digits)
    else None

-- the answer of an arrival at this place of this mount
abbrev pub at_answer : ℕ × List (List ℕ) → Answer
at_answer said = answers.At (record { mount = said.0; place = said.1 })

-- the arrival, where the mount and the place are read
abbrev pub at_of : Option ℕ → Option (List (List ℕ)) → Option Answer
at_of (Some mount) (Some place) = Some (answers.At (record { mount = mount; place = place }))
at_of mount place = None

-- the answer of these words, if the first is `at`
abbrev pub at_read : List ℕ → List ℕ → List ℕ → Option Answer
at_read word mount path =
    if bytes_eq word (codes "at") then at_of (u64_read mount) (result_ok (path_read path)) else None

-- any answer at all
abbrev pub star_read : List ℕ → Option Sought
star_read word = if bytes_eq word (codes "*") then Some sought_as.Any else None

-- any answer of the word, or the one with this number
abbrev pub value_read : List ℕ → List ℕ → Option Sought
value_read word value =
    if bytes_eq value (codes "*") then any_read word
    else option_map sought_as.Exactly (numbered_read word value)

-- `*`; `wait *`, `at *`, `err *`, `fail *`; `wait N`, `err N`, `fail N`; `at N PATH`
abbrev pub sought_read : List (List ℕ) → Option Sought
sought_read (word ∷ []) = star_read word
sought_read (word ∷ value ∷ []) = value_read word value
sought_read (word ∷ mount ∷ path ∷ []) = option_map sought_as.Exactly (at_read word mount path)
sought_read words = None
