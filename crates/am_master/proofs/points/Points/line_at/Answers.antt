use Rattle.std.proofs.Common.{ap, ◌∙◌}
use Rattle.std.specs.Str.{bytes_eq}
use Rattle.std.specs.Map.{lookup}
use Rattle.am_master.proofs.TextLemmas.{lookup_is}
use Rattle.am_master.proofs.points.Points.line_at.Goals as goal

pub returns : goal.returns
returns c =
    c.copied.ensures ∙ c.get.ensures.value ∙ lookup_is (λ text. text.items) c.args.text.now c.self.inside.places.entries
    ∙ ap (lookup (bytes_eq c.args.text.now)) c.self.view_is
