use Rattle.am_import.proofs.PlayLemmas.{head_done, leaves_done, unplayed_done}
use Rattle.am_import.proofs.replay.world_of.Goals as goal

pub returns-in-Ok-Some-clause-ok : goal.returns-in-Ok-Some-clause-ok
returns-in-Ok-Some-clause-ok c =
    leaves_done c.args.input.now.broke c.args.input.now.text.items c.in-Ok-Some.opened c.world_behind.result c.requires.whole (rw c.in-Ok-Some.field-0-is at c.in-Ok-Some.ensures.ok) c.world_behind.ensures.ok

pub returns-in-Ok-Some-clause-err : goal.returns-in-Ok-Some-clause-err
returns-in-Ok-Some-clause-err c =
    unplayed_done c.args.input.now.broke c.args.input.now.text.items c.in-Ok-Some.opened c.world_behind.result c.requires.whole (rw c.in-Ok-Some.field-0-is at c.in-Ok-Some.ensures.ok) c.world_behind.ensures.err

pub returns-in-Err-clause-err : goal.returns-in-Err-clause-err
returns-in-Err-clause-err c =
    head_done c.args.input.now.broke _ c.args.input.now.text.items c.in-Err.fault c.fault_of.result c.requires.whole c.in-Err.ensures.err c.fault_of.ensures.memory c.fault_of.ensures.one
