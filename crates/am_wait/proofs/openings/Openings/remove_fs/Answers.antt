use Rattle.std.proofs.Common.{ap, ◌∙◌}
use Rattle.std.specs.Map.{lookup}
use Rattle.am_names.specs.{eq-value}
use Rattle.am_wait.specs.Openings.{listed_in}
use Rattle.am_wait.proofs.OpeningLemmas.{lists_of_others}
use Rattle.am_wait.proofs.openings.Openings.remove_fs.Goals as goal

pub returns : goal.returns
returns c g =
    ap (λ es. listed_in (lookup (eq-value.it g) es)) c.keep_others.ensures
    ∙ lists_of_others c.args.fs g c.args.self.now.lists.entries
