use Rattle.std.proofs.Common.{true, false, List, Ok, sym, ap, ◌∙◌}
use Rattle.std.proofs.lemmas.Result.{err_from_is_err_and, on_ok_weaker}
use Rattle.am_lines.specs.{words_of}
use Rattle.am_names.specs.{text_of}
use Rattle.am_master.specs.declared.point.Point.TheVariants.{Indirect}
use Rattle.am_master.specs.MasterRow.{MasterRow}
use Rattle.am_master.specs.{row_of, added, served_of}
use Rattle.am_master.proofs.FaultLemmas.{is_fault}
use Rattle.am_master.proofs.PointLemmas.{line_is, taken_is, row_added}
use Rattle.am_names.proofs.Basics.{holds_where_ok}
use Rattle.am_master.proofs.master.Master.read_line.Goals as goal

pub returns-then-has_point-clause-err : goal.returns-then-has_point-clause-err
returns-then-has_point-clause-err c =
    line_is c.args.self.now c.args.number (words_of c.args.line.now) c.in-Some.first.now (words_of c.in-Some.others.now) c.in_ok-path.path true
    (c.in-Some.ensures.some c.args.number) (sym c.is_direct.ensures ∙ c.if-is_direct.false) c.in_ok-path.ensures.ok
    (taken_is c.args.self.now c.in_ok-path.path c.text.result.now c.has_point.result true (c.text.ensures.text ∙ ap text_of c.in-Ok.ensures) c.has_point.ensures c.if-has_point.true)

pub returns-in_err-served-2-clause-err : goal.returns-in_err-served-2-clause-err
returns-in_err-served-2-clause-err c =
    let line = line_is c.args.self.now c.args.number (words_of c.args.line.now) c.in-Some.first.now (words_of c.in-Some.others.now) c.in_ok-path.path false
    (c.in-Some.ensures.some c.args.number) (sym c.is_direct.ensures ∙ c.if-is_direct.false) c.in_ok-path.ensures.ok
    (taken_is c.args.self.now c.in_ok-path.path c.text.result.now c.has_point.result false (c.text.ensures.text ∙ ap text_of c.in-Ok.ensures) c.has_point.ensures c.if-has_point.false) in
    let p = err_from_is_err_and c.from_residual-in_err-served-2.result c.from_residual-in_err-served-2.ensures.1 in
    rw (p.1, p.2) (is_fault _ (line ∙ ap (λ read. added c.args.self.now (row_of c.args.number (Ok (Indirect c.in_ok-path.path)) read)) c.in_err-served-2.ensures.err))

pub returns-clause-ok : goal.returns-clause-ok
returns-clause-ok c =
    let line = line_is c.args.self.now c.args.number (words_of c.args.line.now) c.in-Some.first.now (words_of c.in-Some.others.now) c.in_ok-path.path false
    (c.in-Some.ensures.some c.args.number) (sym c.is_direct.ensures ∙ c.if-is_direct.false) c.in_ok-path.ensures.ok
    (taken_is c.args.self.now c.in_ok-path.path c.text.result.now c.has_point.result false (c.text.ensures.text ∙ ap text_of c.in-Ok.ensures) c.has_point.ensures c.if-has_point.false) in
    let row = row_added c.args.self.now c.args.number c.in_ok-path.path _ (served_of c.in_ok-served-2.served) c.in-Ok.place c.in_ok-served-2.ensures.ok c.in-Ok.ensures in
    on_ok_weaker c.in_memory-2.result (λ is_ok. line ∙ row ∙ ap (λ (rows : List MasterRow). Ok rows) (sym (holds_where_ok c.add-2.result is_ok c.add-2.ensures.ok))) c.in_memory-2.ensures.ok
