use Rattle.std.proofs.Common.{refl, inl, inr}
use Rattle.am_cli.proofs.program.say.Goals as goal

pub returns-then-write_parts : goal.returns-then-write_parts
returns-then-write_parts g c = inl (c.write_parts.ensures.whole c.if-write_parts.true, refl, refl)

pub returns : goal.returns
returns g c = inr (c.write_parts.ensures.cut c.if-write_parts.false, c.tell_word.ensures, refl)
