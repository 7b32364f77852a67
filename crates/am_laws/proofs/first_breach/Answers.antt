use Rattle.std.proofs.Common.{◌≡◌, List, Option, None, Some, []}
use Rattle.std.specs.Prelude.{IfNone, IfSome}
use Rattle.am_state.specs.{Obs}
use Rattle.am_laws.specs.{Lawful, IsFirstBreach}
use Rattle.am_laws.specs.declared.law.Breach.{Breach}
use Rattle.am_laws.specs.Breaches.{breach_from}
use Rattle.am_laws.proofs.Breaches.{first_breach_found, none_is_lawful}
use Rattle.am_laws.proofs.first_breach.Goals as goal

none_of : (trace : List Obs) (found : Option Breach) → breach_from [] trace ≡ found → IfNone found (Lawful trace)
none_of trace None e = none_is_lawful trace e
none_of trace (Some breach) e = tt

some_of : (trace : List Obs) (found : Option Breach) → breach_from [] trace ≡ found → IfSome found (IsFirstBreach trace)
some_of trace None e = tt
some_of trace (Some breach) e = first_breach_found trace breach e

pub returns-clause-none : goal.returns-clause-none
returns-clause-none c = none_of c.args.trace.now c.breach_in.result (let e = c.breach_in.ensures in cc)

pub returns-clause-some : goal.returns-clause-some
returns-clause-some c = some_of c.args.trace.now c.breach_in.result (let e = c.breach_in.ensures in cc)
