use Rattle.std.proofs.Common.{◌≡◌, List, Option, None, Some, [], Bool, true, false, refl}
use Rattle.std.specs.Prelude.{◌↔◌, IsTrue, is_some, not}
use Rattle.am_state.specs.{Obs}
use Rattle.am_laws.specs.{Lawful}
use Rattle.am_laws.specs.declared.law.Breach.{Breach}
use Rattle.am_laws.specs.Breaches.{breach_from}
use Rattle.am_laws.proofs.Breaches.{lawful_is_none, none_is_lawful}
use Rattle.am_laws.proofs.trace_holds.Goals as goal

holds_of : (trace : List Obs) (found : Option Breach) (test : Bool) → breach_from [] trace ≡ found → is_some found ≡ not test → IsTrue test ↔ Lawful trace
holds_of trace None true e h = (λ so. none_is_lawful trace e, λ law. refl)
holds_of trace None false e h = absurd cc
holds_of trace (Some breach) true e h = absurd cc
holds_of trace (Some breach) false e h = (λ so. absurd cc, λ law. let no = lawful_is_none trace law in absurd cc)

pub returns : goal.returns
returns c = holds_of c.args.trace.now c.breach_in.result c.is_none.result (let e = c.breach_in.ensures in cc) c.is_none.ensures
