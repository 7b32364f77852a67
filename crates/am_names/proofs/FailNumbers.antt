-- Failures of the same number are the same.
use Rattle.std.proofs.Common.{◌≡◌, Option, Some, refl, sym, ap, ◌∙◌}
use Rattle.std.specs.Option.{unwrap_or}
use Rattle.am_names.specs.{fail_number, fail_no_numbered}
use Rattle.am_names.specs.declared.fail_no.FailNo.{FailNo}
use Rattle.am_names.specs.declared.fail_no.FailNo.TheVariants.{ENOENT, EPERM, EBUSY, EEXIST, EINVAL, EAGAIN, ELOOP, ENAMETOOLONG, ENOSPC}

numbered_back : (a : FailNo) → fail_no_numbered (fail_number a) ≡ Some a
numbered_back ENOENT = refl
numbered_back EPERM = refl
numbered_back EBUSY = refl
numbered_back EEXIST = refl
numbered_back EINVAL = refl
numbered_back EAGAIN = refl
numbered_back ELOOP = refl
numbered_back ENAMETOOLONG = refl
numbered_back ENOSPC = refl

pub fail_is : (a b : FailNo) → fail_number a ≡ fail_number b → a ≡ b
fail_is a b h =
    ap (λ (o : Option FailNo). unwrap_or o a) (sym (numbered_back a) ∙ ap fail_no_numbered h ∙ numbered_back b)
