use Rattle.std.proofs.Common.{◌≡◌, ◌<◌, ◌-◌, ℕ, List, drop, sym, subst, ◌∙◌}
use Rattle.am_script.specs.Lines.{lines_of}
use Rattle.am_diagnosis.specs.Scripts.{lines_at}
use Rattle.am_diagnosis.proofs.ScriptLemmas.{lines_at_is}
use Rattle.am_explain.specs.SceneHelp.{IsSceneHelp}
use Rattle.am_explain.proofs.scenes.own_help.Goals as goal

pub returns-in-Ok : goal.returns-in-Ok
returns-in-Ok c text is =
    let fault = c.args.fault in
    let here : (0 < fault.line) × (lines_of c.in-Some.text.now ≡ drop (fault.line - 1) (lines_of text)) =
    rw c.in-Some.is at c.text_from.ensures.lines text is in
    let lines : lines_of c.in-Some.text.now ≡ lines_at fault.line (lines_of text) =
    here.1 ∙ sym (lines_at_is fault.line (lines_of text) here.0) in
    subst (λ (ls : List (List ℕ)). IsSceneHelp fault ls c.in-Ok.help.items) lines c.in-Ok.ensures
