use Rattle.std.proofs.Common.{refl, inr}
use Rattle.am_cli.specs.declared.args.ArgsFault.TheVariants.{NoMemory}
use Rattle.am_cli.proofs.program.run_lent.Goals as goal

pub returns-in-Err : goal.returns-in-Err
returns-in-Err g c = inr (record {
  fault = NoMemory;
  refused = tt;
  status_is = c.refuse.ensures.status;
  unread = refl;
  unwritten = refl;
  tells = c.refuse.ensures.told;
})
