use Rattle.std.proofs.Common.{◌≡◌, List, ℕ, OnOk, subst}
use Rattle.am_script.specs.Lines.{lines_of}
use Rattle.am_explain.proofs.HelpLemmas.{slip_parts}
use Rattle.am_explain.proofs.explain.put_slip.Goals as goal

pub returns : goal.returns
returns c =
    subst (λ (t : List ℕ). OnOk c.put_note.result (c.put_note.new.text.items ≡ t))
    (slip_parts c.args.help.now.items c.put_place.new.text.items c.args.is_ended c.args.fault (lines_of c.args.text.now) c.args.slip
    c.first_line-line.result.now c.words.result.now c.goes_on-joined.result c.expected_at-expected.result c.is_section_end.result c.note_of-note.result
    c.in_ok-put_place.ensures c.note_of-note.ensures c.is_section_end.ensures c.words.ensures c.goes_on-joined.ensures c.first_line-line.ensures c.expected_at-expected.ensures)
    c.put_note.ensures
