use Rattle.std.proofs.Common.{refl, inl, inr}
use Rattle.am_cli.proofs.program.run_program.Goals as goal

pub returns-in-Ok : goal.returns-in-Ok
returns-in-Ok g c = inl (record { asked = c.in-Ok.args; asks = c.in-Ok.ensures.read; exits = c.run_asked.ensures })

pub returns-in-Err : goal.returns-in-Err
returns-in-Err g c = inr (record {
  fault = c.in-Err.fault;
  refused = c.in-Err.ensures.refused;
  status_is = c.refuse.ensures.status;
  unread = refl;
  unwritten = refl;
  tells = c.refuse.ensures.told;
})
