use Rattle.std.proofs.Common.{◌∙◌, ap}
use Rattle.std.specs.Str.{bytes_eq}
use Rattle.std.specs.List.{list_any}
use Rattle.am_master.specs.{texts_of}
use Rattle.am_master.proofs.PlaceLemmas.{listed}
use Rattle.am_master.proofs.master.Master.has_point.Goals as goal

pub returns : goal.returns
returns c =
    c.has.ensures ∙ listed c.args.text.now c.self.inside.points c.self.inside.entries.items c.self.invariant
    ∙ ap (λ rows. list_any (bytes_eq c.args.text.now) (texts_of rows)) c.self.view_is
