use Rattle.am_script.proofs.Pieces.{puts_three}
use Rattle.am_mountinfo.specs.Notes.{obs_note}
use Rattle.am_mountinfo.proofs.notes.put_recorded_note.Goals as goal

pub returns : goal.returns
unfolding obs_note
returns g c = puts_three _ _ _ _ _ _ _ _ _ _ _ c.put_word.ensures c.put_recorded.ensures c.put_word-2.ensures
