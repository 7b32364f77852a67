use Rattle.std.proofs.Common.{[]}
use Rattle.am_shared.proofs.ChronicleLemmas.{opens}
use Rattle.am_shared.proofs.chronicle.open.Goals as goal

pub of_words-requires : goal.of_words-requires
of_words-requires c = opens _ []
