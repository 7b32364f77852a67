use Rattle.std.proofs.Common.{refl}
use Rattle.am_mount_lines.proofs.Found.{last_is, last_of}
use Rattle.am_mount_lines.proofs.words.last_word.Goals as goal

pub returns-in-Some : goal.returns-in-Some
returns-in-Some c =
    rw (last_of (λ word. word.now) c.args.words.now, last_is c.args.words.now, ← c.in-Some.ensures.value) refl
