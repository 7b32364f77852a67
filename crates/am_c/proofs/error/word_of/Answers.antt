use Rattle.std.proofs.Common.{refl, inl, arith}
use Rattle.am_names.specs.declared.errno.Errno.TheVariants.{ENOENT, EPERM, EBUSY, EEXIST, EINVAL, EAGAIN, ELOOP, ENAMETOOLONG, ENOSPC, NoMemory, NotReleased, Stranger}
use Rattle.am_c.proofs.error.word_of.Goals as goal

pub returns-in-1 : goal.returns-in-1
returns-in-1 c = inl (ENOENT, omega arith, refl)

pub returns-in-2 : goal.returns-in-2
returns-in-2 c = inl (EPERM, omega arith, refl)

pub returns-in-3 : goal.returns-in-3
returns-in-3 c = inl (EBUSY, omega arith, refl)

pub returns-in-4 : goal.returns-in-4
returns-in-4 c = inl (EEXIST, omega arith, refl)

pub returns-in-5 : goal.returns-in-5
returns-in-5 c = inl (EINVAL, omega arith, refl)

pub returns-in-6 : goal.returns-in-6
returns-in-6 c = inl (EAGAIN, omega arith, refl)

pub returns-in-7 : goal.returns-in-7
returns-in-7 c = inl (ELOOP, omega arith, refl)

pub returns-in-8 : goal.returns-in-8
returns-in-8 c = inl (ENAMETOOLONG, omega arith, refl)

pub returns-in-9 : goal.returns-in-9
returns-in-9 c = inl (ENOSPC, omega arith, refl)

pub returns-in-10 : goal.returns-in-10
returns-in-10 c = inl (NoMemory, omega arith, refl)

pub returns-in-11 : goal.returns-in-11
returns-in-11 c = inl (NotReleased, omega arith, refl)

pub returns-in-12 : goal.returns-in-12
returns-in-12 c = inl (Stranger, omega arith, refl)
