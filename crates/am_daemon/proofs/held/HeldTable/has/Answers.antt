use Rattle.std.proofs.Common.{ℕ, Option, ◌==◌, false, sym, ap, ◌∙◌}
use Rattle.std.specs.Option.{option_map_or}
use Rattle.am_daemon.proofs.ByFsLemmas.{held_alone}
use Rattle.am_daemon.proofs.held.HeldTable.has.Goals as goal

pub returns-in-Some : goal.returns-in-Some
returns-in-Some c =
    c.eq.ensures
    ∙ ap (λ (o : Option ℕ). option_map_or (λ (held : ℕ). held == c.args.attach) o false) (sym c.in-Some.is ∙ c.get.ensures.exact)
    ∙ held_alone c.args.fs c.args.attach c.args.self.now.rows c.get.ensures.once

pub returns-in-None : goal.returns-in-None
returns-in-None c =
    ap (λ (o : Option ℕ). option_map_or (λ (held : ℕ). held == c.args.attach) o false) (sym c.in-None.is ∙ c.get.ensures.exact)
    ∙ held_alone c.args.fs c.args.attach c.args.self.now.rows c.get.ensures.once
