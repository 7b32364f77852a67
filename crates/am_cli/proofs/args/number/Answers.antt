use Rattle.std.proofs.Common.{◌≡◌, ◌≤◌, ℕ, arith}
use Rattle.am_cli.proofs.CommandLemmas.{no_number, number_is, one_number}
use Rattle.std.specs.Str.Parse.{ParsesUnsigned, ExplainsUnsignedError, HasUnsignedDigitsIfOk}
use Rattle.clap.specs.Words.{found_of, rows_of}
use Rattle.am_cli.specs.{IsNumber}
use Rattle.am_cli.proofs.args.number.Goals as goal

pub returns-in_default-clause-refused : goal.returns-in_default-clause-refused
returns-in_default-clause-refused c number is low high =
    no_number _ (λ bs r. ParsesUnsigned 32 10 bs r × ExplainsUnsignedError 10 bs r × HasUnsignedDigitsIfOk bs r) (found_of c.args.given.now) c.args.id.now c.get_one.result (λ t x h. h.0) c.get_one.ensures.value c.in_default.is number is (omega (arith, high, c.ranges.most))

pub returns-then-number-lt1-clause-refused : goal.returns-then-number-lt1-clause-refused
returns-then-number-lt1-clause-refused c number is low high =
    let read = number_is _ (λ bs r. ParsesUnsigned 32 10 bs r × ExplainsUnsignedError 10 bs r × HasUnsignedDigitsIfOk bs r) (found_of c.args.given.now) c.args.id.now c.get_one.result c.in-Some.number (λ t x h. h.0) c.get_one.ensures.none c.get_one.ensures.value c.in-Some.is in
    let same = one_number (rows_of (found_of c.args.given.now)) c.args.id.now number c.in-Some.number is read in
    omega (arith, same, low, c.if-number-lt1.true)

pub returns-then-most-number-clause-refused : goal.returns-then-most-number-clause-refused
returns-then-most-number-clause-refused c number is low high =
    let read = number_is _ (λ bs r. ParsesUnsigned 32 10 bs r × ExplainsUnsignedError 10 bs r × HasUnsignedDigitsIfOk bs r) (found_of c.args.given.now) c.args.id.now c.get_one.result c.in-Some.number (λ t x h. h.0) c.get_one.ensures.none c.get_one.ensures.value c.in-Some.is in
    let same = one_number (rows_of (found_of c.args.given.now)) c.args.id.now number c.in-Some.number is read in
    omega (arith, same, high, c.if-most-number.true)

pub returns-clause-read : goal.returns-clause-read
returns-clause-read c =
    number_is _ (λ bs r. ParsesUnsigned 32 10 bs r × ExplainsUnsignedError 10 bs r × HasUnsignedDigitsIfOk bs r) (found_of c.args.given.now) c.args.id.now c.get_one.result c.in-Some.number (λ t x h. h.0) c.get_one.ensures.none c.get_one.ensures.value c.in-Some.is
