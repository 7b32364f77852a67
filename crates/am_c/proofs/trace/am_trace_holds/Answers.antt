use Rattle.std.proofs.Common.{refl, inl, inr}
use Rattle.am_c.proofs.trace.am_trace_holds.Goals as goal

pub returns-in-Ok : goal.returns-in-Ok
returns-in-Ok c = inl (record { verdict = c.in-Ok.verdict; comes = c.in-Ok.ensures.ok; is_told = c.judged_as.ensures }, refl)

pub returns-in-Err : goal.returns-in-Err
returns-in-Err c = inr (record {
  fault = c.in-Err.fault;
  unread = c.in-Err.ensures.err;
  is_told = c.unread_as.ensures;
  numbered = c.fault_number.ensures;
})
