use Rattle.std.proofs.Common.{sym, ◌∙◌}
use Rattle.am_import.proofs.LineLemmas.{comment_taken, heading_done, mount_done}
use Rattle.am_import.proofs.imports.take_line.Goals as goal

pub returns-then-begins_space-clause-ok : goal.returns-then-begins_space-clause-ok
returns-then-begins_space-clause-ok c =
    heading_done c.begin_space.result c.args.line.now c.args.mounts.now c.begin_space.new.self (sym c.begins_space.ensures ∙ c.if-begins_space.true) c.begin_space.ensures.ok c.begin_space.ensures.used c.begin_space.ensures.same

pub returns-then-is_skipped-clause-ok : goal.returns-then-is_skipped-clause-ok
returns-then-is_skipped-clause-ok c =
    comment_taken c.args.line.now c.args.mounts.now (sym c.begins_space.ensures ∙ c.if-begins_space.false) (sym c.is_skipped.ensures ∙ c.if-is_skipped.true)

pub returns-in-Ok-clause-ok : goal.returns-in-Ok-clause-ok
returns-in-Ok-clause-ok c =
    mount_done c.push.result c.args.line.now c.args.mounts.now c.push.new.self c.in-Ok.mount (sym c.begins_space.ensures ∙ c.if-begins_space.false) (sym c.is_skipped.ensures ∙ c.if-is_skipped.false) c.in-Ok.ensures.ok c.push.ensures.lines c.push.ensures.space c.push.ensures.used
