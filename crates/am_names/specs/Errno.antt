-- The numbers of the errors, and the order of a call's tests: own choice (docs/FORMATS.md, "Error
-- numbers"). The first nine have the names of errno(3).
use Rattle.std.specs.Prelude.{◌≡◌, ℕ, Option, Some, None, Result, Ok, Err, ⊤}
use Rattle.am_names.specs.declared.errno.Errno.{Errno}
use Rattle.am_names.specs.declared.errno.Errno.TheVariants.{ENOENT, EPERM, EBUSY, EEXIST, EINVAL, EAGAIN, ELOOP, ENAMETOOLONG, ENOSPC, NoMemory, NotReleased, Stranger}

-- the number that scripts print
abbrev pub errno_number : Errno → ℕ
errno_number ENOENT = 1
errno_number EPERM = 2
errno_number EBUSY = 3
errno_number EEXIST = 4
errno_number EINVAL = 5
errno_number EAGAIN = 6
errno_number ELOOP = 7
errno_number ENAMETOOLONG = 8
errno_number ENOSPC = 9
errno_number NoMemory = 10
errno_number NotReleased = 11
errno_number Stranger = 12

-- The first test that fails refuses the call, which succeeds where none does.
-- Memory may run out in either case.
abbrev pub RefusedAs : {T : Type 0} → Option Errno → Result T Errno → Type 0
RefusedAs first (Ok value) = first ≡ None
RefusedAs first (Err NoMemory) = ⊤
RefusedAs first (Err e) = first ≡ Some e

-- the same of a call that takes no memory
abbrev pub RefusedOnlyAs : {T : Type 0} → Option Errno → Result T Errno → Type 0
RefusedOnlyAs first (Ok value) = first ≡ None
RefusedOnlyAs first (Err e) = first ≡ Some e
