use Rattle.std.proofs.Common.{inl}
use Rattle.am_session.proofs.played.begin_opened.Goals as goal

pub returns-in-Err-clause-err : goal.returns-in-Err-clause-err
returns-in-Err-clause-err c = inl c.in-Err.ensures.err
