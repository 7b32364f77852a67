use Rattle.std.proofs.Common.{◌∙◌, ap}
use Rattle.am_names.specs.{names_of}
use Rattle.am_master.specs.{line_at}
use Rattle.am_master.proofs.PlaceLemmas.{line_is_at}
use Rattle.am_master.proofs.master.Master.line_at.Goals as goal

pub returns : goal.returns
returns c =
    c.line_at.ensures ∙ line_is_at c.args.text.now c.self.inside.points c.self.inside.entries.items c.requires c.self.invariant
    ∙ ap (λ rows. line_at rows (names_of c.args.text.now)) c.self.view_is
