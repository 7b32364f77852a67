use Rattle.std.proofs.Common.{ap, ◌∙◌}
use Rattle.std.specs.Str.{bytes_eq}
use Rattle.std.specs.List.{list_any}
use Rattle.am_master.specs.{Placed}
use Rattle.am_master.proofs.TextLemmas.{found_is}
use Rattle.am_master.proofs.points.Points.has.Goals as goal

pub returns : goal.returns
returns c =
    c.contains_key.ensures ∙ found_is (λ text. text.items) c.args.text.now c.self.inside.places.entries
    ∙ ap (list_any (λ (p : Placed). bytes_eq c.args.text.now p.0)) c.self.view_is
