use Rattle.am_script.proofs.PlayerLemmas.{new_stands}
use Rattle.am_script.proofs.player.Player.new.Goals as goal

pub returns-clause-stands : goal.returns-clause-stands
returns-clause-stands c = λ form start. new_stands c.new-heading.result c.new-output.result start c.new-heading.ensures c.new-output.ensures.bytes c.new-output.ensures.marks c.new-output.ensures.lost
