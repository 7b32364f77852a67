use Rattle.std.proofs.Common.{rules, None}
use Rattle.am_cli.proofs.CommandLemmas.{no_number, no_number_in, number_is, none_is}
use Rattle.std.specs.Str.Parse.{ParsesUnsigned, ExplainsUnsignedError, HasUnsignedDigitsIfOk}
use Rattle.clap.specs.Words.{found_of}
use Rattle.am_cli.proofs.args.number_in.Goals as goal

pub returns-then-is_none-clause-read : goal.returns-then-is_none-clause-read
returns-then-is_none-clause-read c = none_is (found_of c.args.given.now) c.args.id.now (search rules)

pub returns-in-Some-clause-read : goal.returns-in-Some-clause-read
returns-in-Some-clause-read c =
    number_is _ (λ bs r. ParsesUnsigned 32 10 bs r × ExplainsUnsignedError 10 bs r × HasUnsignedDigitsIfOk bs r) (found_of c.args.given.now) c.args.id.now c.get_one.result c.in-Some.number (λ t x h. h.0) c.get_one.ensures.none c.get_one.ensures.value c.in-Some.is

pub returns-in-None-clause-refused : goal.returns-in-None-clause-refused
returns-in-None-clause-refused c =
    no_number_in (found_of c.args.given.now) c.args.id.now (λ e. search rules)
    (no_number _ (λ bs r. ParsesUnsigned 32 10 bs r × ExplainsUnsignedError 10 bs r × HasUnsignedDigitsIfOk bs r) (found_of c.args.given.now) c.args.id.now c.get_one.result (λ t x h. h.0) c.get_one.ensures.value c.in-None.is)
