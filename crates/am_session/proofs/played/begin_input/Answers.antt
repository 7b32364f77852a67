use Rattle.am_session.proofs.BegunLemmas.{begun_as, no_head_as}
use Rattle.am_session.proofs.played.begin_input.Goals as goal

pub returns-in-Ok-Some : goal.returns-in-Ok-Some
returns-in-Ok-Some c =
    let made = c.begin_opened.ensures in
    begun_as c.args.input.now.text.items c.args.input.now.broke c.in-Ok-Some.opened c.begin_opened.result c.requires.whole (rw c.in-Ok-Some.field-0-is at c.in-Ok-Some.ensures.ok) made.world made.answer made.told made.err

pub returns-in-Err : goal.returns-in-Err
returns-in-Err c = no_head_as c.args.input.now.text.items c.args.input.now.broke c.in-Err.fault c.requires.whole c.in-Err.ensures.err
