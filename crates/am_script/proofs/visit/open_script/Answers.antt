use Rattle.std.proofs.Common.{◌-◌, length, take, refl}
use Rattle.am_script.proofs.Openings.{open_cut, not_open_cut}
use Rattle.am_script.proofs.visit.open_script.Goals as goal

pub returns-in-Some-clause-ok : goal.returns-in-Some-clause-ok
returns-in-Some-clause-ok c =
    rw c.in-Some.is (open_cut c.args.input.now.text.items c.as_slice-text.result.now c.cut_line-cut.result.now (take (length c.as_slice-text.result.now - length c.cut_line-cut.result.now) c.as_slice-text.result.now) c.in-Some.kind c.cut_kind-kind.result c.open_text-in-Some.result c.as_slice-text.ensures.value c.cut_line-cut.ensures.line c.cut_kind-kind.ensures refl c.open_text-in-Some.ensures.ok)

pub returns-in-Some-clause-err : goal.returns-in-Some-clause-err
returns-in-Some-clause-err c =
    rw c.in-Some.is (not_open_cut c.args.input.now.text.items c.as_slice-text.result.now c.cut_line-cut.result.now (take (length c.as_slice-text.result.now - length c.cut_line-cut.result.now) c.as_slice-text.result.now) c.in-Some.kind c.cut_kind-kind.result c.open_text-in-Some.result c.as_slice-text.ensures.value c.cut_line-cut.ensures.line c.cut_kind-kind.ensures refl c.open_text-in-Some.ensures.err)
