use Rattle.std.proofs.Common.{◌∙◌, sym, Some, None}
use Rattle.am_names.proofs.PathFaultLemmas.{text_told, text_sound}
use Rattle.am_names.proofs.path.AbsPath.read.Goals as goal

pub returns-in-Some : goal.returns-in-Some
returns-in-Some c =
    sym (text_told c.args.bytes.now (Some c.in-Some.errno) (sym c.begins_with_slash.ensures ∙ c.if-not-begins_with_slash.false) c.if-bytes-gt4095.false (sym c.in-Some.is ∙ c.first_fault.ensures))

pub invariant_of-result : goal.invariant_of-result
invariant_of-result c = text_sound c.args.bytes.now (sym c.in_default.is ∙ c.first_fault.ensures)

pub returns : goal.returns
returns c =
    sym (text_told c.args.bytes.now None (sym c.begins_with_slash.ensures ∙ c.if-not-begins_with_slash.false) c.if-bytes-gt4095.false (sym c.in_default.is ∙ c.first_fault.ensures))
