use Rattle.am_mount_lines.proofs.Escaping.{reads_back}
use Rattle.am_mount_lines.proofs.law.escapes_read_back.Goals as goal

pub returns : goal.returns
returns c = reads_back
