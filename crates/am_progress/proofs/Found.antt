-- What is found by a token, its packet and its job, and by a file system, its attachment.
use Rattle.std.proofs.Common.{◌≡◌, ℕ, Bool, true, false, Option, Some, None, refl}
use Rattle.std.specs.Prelude.{if◌then◌else◌}
use Rattle.am_kernel.specs.{KernelState, is_live, latest_attach, attach_of}

live_by_cases : (live : Bool) (o : Option ℕ) (attach : ℕ) → (if live then o else None) ≡ Some attach → live ≡ true
live_by_cases true o attach e = refl
live_by_cases false o attach e = absurd cc

-- a file system that has an attachment is live
pub live_of : (k : KernelState) (fs attach : ℕ) → attach_of k fs ≡ Some attach → is_live k fs ≡ true
live_of k fs attach e = live_by_cases (is_live k fs) (latest_attach k.attached fs) attach e
