use Rattle.std.proofs.Common.{[], refl, inr}
use Rattle.am_cli.proofs.AskedLemmas.{none_refused}
use Rattle.am_cli.proofs.program.run_words.Goals as goal

pub returns-in-Ok : goal.returns-in-Ok
returns-in-Ok g c = (_, c.run_lent.ensures)

pub returns-in-Err : goal.returns-in-Err
returns-in-Err g c = (
  [],
  inr (record {
    fault = c.in-Err.fault;
    refused = none_refused c.in-Err.fault;
    status_is = c.refuse.ensures.status;
    unread = refl;
    unwritten = refl;
    tells = c.refuse.ensures.told;
  }),
)
