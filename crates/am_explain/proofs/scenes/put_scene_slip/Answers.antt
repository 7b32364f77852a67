use Rattle.std.proofs.Common.{◌≡◌, List, ℕ, OnOk, subst}
use Rattle.am_script.specs.Lines.{lines_of}
use Rattle.am_explain.proofs.SceneLemmas.{scene_slip_parts}
use Rattle.am_explain.proofs.scenes.put_scene_slip.Goals as goal

pub returns : goal.returns
returns c =
    subst (λ (t : List ℕ). OnOk c.put_note.result (c.put_note.new.text.items ≡ t))
    (scene_slip_parts c.args.help.now.items c.put_place.new.text.items c.args.number (lines_of c.args.text.now)
    c.args.slip c.first_line.result.now c.words.result.now c.note_of-note.result c.in_ok-put_place.ensures
    c.note_of-note.ensures c.words.ensures c.first_line.ensures) c.put_note.ensures
