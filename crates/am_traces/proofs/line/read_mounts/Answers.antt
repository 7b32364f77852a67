use Rattle.std.proofs.Common.{◌≡◌, ◌<◌, ◌^◌, length, Err, sym, arith, rules}
use Rattle.std.specs.Prelude.{codes}
use Rattle.std.proofs.lemmas.Bool.Decides.{nat_tests}
use Rattle.am_traces.specs.declared.fault.Expected.TheVariants as expected
use Rattle.am_traces.specs.Parts.{number_cut}
use Rattle.am_traces.specs.Observations.{mounts_in}
use Rattle.am_traces.proofs.MountLemmas.{at_first, goes_on, shorter, stops, ends}
use Rattle.am_traces.proofs.line.read_mounts.Goals as goal

pub loop-rest-init : goal.loop-rest-init
loop-rest-init c = rw (c.new-numbers.ensures.items, c.of-rest.ensures, c.as_bytes.ensures) (at_first c.args.text.now)

pub returns-in_err-mount : goal.returns-in_err-mount
returns-in_err-mount c =
    let some : 0 < length c.loop-rest.rest = grind (arith, nat_tests) in
    let missed : number_cut (codes " ") (2 ^ 64) expected.Mount c.loop-rest.rest ≡ Err c.in_err-mount.field-0.0 = sym c.in_err-mount.ensures in
    let all : mounts_in (length c.args.text.now) c.args.text.now ≡ Err c.in_err-mount.field-0.0 = stops _ _ _ _ c.loop-rest.invariant some missed in
    search rules

pub loop-rest-smaller : goal.loop-rest-smaller
loop-rest-smaller c = shorter c.loop-rest.rest (c.in_ok-mount.mount, c.in_ok-mount.behind) (sym c.in_ok-mount.ensures)

pub loop-rest-preserved : goal.loop-rest-preserved
loop-rest-preserved c =
    let some : 0 < length c.loop-rest.rest = grind (arith, nat_tests) in
    rw c.in_ok-push.ensures.items (goes_on c.loop-rest.numbers.items c.loop-rest.rest c.args.text.now (c.in_ok-mount.mount, c.in_ok-mount.behind) c.loop-rest.invariant some (sym c.in_ok-mount.ensures))

pub returns : goal.returns
returns c =
    let none : length c.loop-rest.rest ≡ 0 = grind (arith, nat_tests) in
    rw c.of.ensures (ends c.loop-rest.numbers.items c.loop-rest.rest c.args.text.now c.loop-rest.invariant none)
