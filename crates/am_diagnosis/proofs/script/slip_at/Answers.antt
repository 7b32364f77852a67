use Rattle.std.proofs.Common.{List, ℕ, ap, sym, subst, ◌∙◌}
use Rattle.am_lines.specs.{words_of}
use Rattle.am_script.specs.Lines.{lines_of}
use Rattle.am_script.specs.declared.fault.ScriptFaultKind.{ScriptFaultKind}
use Rattle.am_diagnosis.specs.Maps.{map_misfit, master_misfit}
use Rattle.am_diagnosis.specs.Scripts.{IsSlipIn}
use Rattle.am_diagnosis.proofs.ScriptLemmas.{master_slip, map_slip, unknown_slip}
use Rattle.am_diagnosis.proofs.script.slip_at.Goals as goal

pub returns-in_ok-line-in-BadMaster-clause-slip : goal.returns-in_ok-line-in-BadMaster-clause-slip
returns-in_ok-line-in-BadMaster-clause-slip c =
    subst (λ (kind : ScriptFaultKind). IsSlipIn kind (lines_of c.args.text.now) c.slip_of.result) (sym c.in-BadMaster.is)
    (master_slip c.in-BadMaster.kind c.args.text.now c.slip_of.result c.deref.result.now c.master_misfit.result
    (c.deref.ensures.value ∙ c.in_ok-line-in-BadMaster.ensures)
    (c.master_misfit.ensures ∙ ap (λ (line : List ℕ). master_misfit c.in-BadMaster.kind (words_of line)) (c.deref-in-BadMaster.ensures.value ∙ sym c.deref.ensures.value))
    c.slip_of.ensures)

pub returns-in_ok-line-in-BadMap-clause-slip : goal.returns-in_ok-line-in-BadMap-clause-slip
returns-in_ok-line-in-BadMap-clause-slip c =
    subst (λ (kind : ScriptFaultKind). IsSlipIn kind (lines_of c.args.text.now) c.slip_of-in-BadMap.result) (sym c.in-BadMap.is)
    (map_slip c.in-BadMap.kind c.args.text.now c.slip_of-in-BadMap.result c.deref-in-BadMap.result.now c.map_misfit.result
    (c.deref-in-BadMap.ensures.value ∙ c.in_ok-line-in-BadMap.ensures)
    (c.map_misfit.ensures ∙ ap (λ (line : List ℕ). map_misfit c.in-BadMap.kind (words_of line)) (c.deref-in-BadMap-2.ensures.value ∙ sym c.deref-in-BadMap.ensures.value))
    c.slip_of-in-BadMap.ensures)

pub returns-in_ok-line-in-NoSuchMap-clause-slip : goal.returns-in_ok-line-in-NoSuchMap-clause-slip
returns-in_ok-line-in-NoSuchMap-clause-slip c =
    subst (λ (kind : ScriptFaultKind). IsSlipIn kind (lines_of c.args.text.now) c.slip_of-in-NoSuchMap.result) (sym c.in-NoSuchMap.is)
    (unknown_slip c.args.text.now c.slip_of-in-NoSuchMap.result c.deref-in-NoSuchMap.result.now c.misfit_at.result
    (c.deref-in-NoSuchMap.ensures.value ∙ c.in_ok-line-in-NoSuchMap.ensures)
    c.misfit_at.ensures
    c.slip_of-in-NoSuchMap.ensures)
