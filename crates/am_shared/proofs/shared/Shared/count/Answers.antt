use Rattle.std.proofs.Common.{◌∙◌, ap, length}
use Rattle.am_shared.specs.Sharing.{Sharing}
use Rattle.am_shared.proofs.shared.Shared.count.Goals as goal

pub returns : goal.returns
returns c = c.count.ensures.all ∙ ap (λ (s : Sharing). length s.history) c.self.view_is
