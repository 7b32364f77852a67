use Rattle.std.proofs.Common.{Some, refl, ap, rules, tests, codes}
use Rattle.std.proofs.lemmas.List.{take_rest}
use Rattle.std.proofs.lemmas.Iterator.Splits.{YieldsList-from_slice_split}
use Rattle.std.proofs.lemmas.Iterator.Search.{find_from_yields_List}
use Rattle.am_mount_lines.specs.Traps.{begins, is_comma}
use Rattle.am_mount_lines.proofs.trap.timeout_word.Goals as goal

pub returns-in_err-option : goal.returns-in_err-option
returns-in_err-option c =
    let found = find_from_yields_List (begins (codes "timeout=")) _ _ c.find.result c.find.ensures.ran
    (YieldsList-from_slice_split _ is_comma c.args.options.now c.split.ensures.rest c.split.ensures.done
    c.split.ensures.closure (λ x b q k. search (rules, tests))) (λ x b q k. search (rules, tests)) in
    rw (c.from_residual.ensures, ← found, c.in_err-option.was) refl

pub returns : goal.returns
returns c =
    let found = find_from_yields_List (begins (codes "timeout=")) _ _ c.find.result c.find.ensures.ran
    (YieldsList-from_slice_split _ is_comma c.args.options.now c.split.ensures.rest c.split.ensures.done
    c.split.ensures.closure (λ x b q k. search (rules, tests))) (λ x b q k. search (rules, tests)) in
    rw (← found, c.in_ok-option.was) (ap Some (take_rest c.in_ok-option.option.now 8))
