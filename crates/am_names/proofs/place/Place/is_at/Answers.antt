use Rattle.std.proofs.Common.{◌≡◌, List, ℕ, subst}
use Rattle.std.specs.Str.{bytes_eq}
use Rattle.am_names.proofs.PathLemmas.{texts_tell}
use Rattle.am_names.proofs.place.Place.is_at.Goals as goal

pub returns-clause-test : goal.returns-clause-test
returns-clause-test c =
    texts_tell c.args.text.now c.self.inside.text.items c.args.self.now c.eq.result c.requires c.self.invariant c.self.view_is
    (subst (λ (t : List ℕ). c.eq.result ≡ bytes_eq c.args.text.now t) c.as_slice.ensures c.eq.ensures)
