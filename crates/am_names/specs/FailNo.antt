-- The numbers of failures: own choice (docs/DECISIONS.md, "A failure has a number, and may last").
use Rattle.std.specs.Prelude.{ℕ, ◌==◌, Option, Some, None, Result, Ok, Err, if◌then◌else◌}
use Rattle.am_names.specs.Errno.{errno_number}
use Rattle.am_names.specs.declared.errno.Errno.{Errno}
use Rattle.am_names.specs.declared.errno.Errno.TheVariants as errno
use Rattle.am_names.specs.declared.fail_no.FailNo.{FailNo}
use Rattle.am_names.specs.declared.fail_no.FailNo.TheVariants.{ENOENT, EPERM, EBUSY, EEXIST, EINVAL, EAGAIN, ELOOP, ENAMETOOLONG, ENOSPC}

-- the error of the same name
abbrev pub errno_of : FailNo → Errno
errno_of ENOENT = errno.ENOENT
errno_of EPERM = errno.EPERM
errno_of EBUSY = errno.EBUSY
errno_of EEXIST = errno.EEXIST
errno_of EINVAL = errno.EINVAL
errno_of EAGAIN = errno.EAGAIN
errno_of ELOOP = errno.ELOOP
errno_of ENAMETOOLONG = errno.ENAMETOOLONG
errno_of ENOSPC = errno.ENOSPC

-- its number is that error's
abbrev pub fail_number : FailNo → ℕ
fail_number error = errno_number (errno_of error)

-- the failure of this number, if there is one
abbrev pub fail_no_numbered : ℕ → Option FailNo
fail_no_numbered n =
    if n == 1 then Some ENOENT
    else if n == 2 then Some EPERM
    else if n == 3 then Some EBUSY
    else if n == 4 then Some EEXIST
    else if n == 5 then Some EINVAL
    else if n == 6 then Some EAGAIN
    else if n == 7 then Some ELOOP
    else if n == 8 then Some ENAMETOOLONG
    else if n == 9 then Some ENOSPC
    else None

-- the failure, or EINVAL where there is none
abbrev pub or_invalid : Option FailNo → Result FailNo Errno
or_invalid (Some error) = Ok error
or_invalid None = Err errno.EINVAL

-- the failure of this number; another number is EINVAL
abbrev pub fail_no_read : ℕ → Result FailNo Errno
fail_no_read n = or_invalid (fail_no_numbered n)
