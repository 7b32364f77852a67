use Rattle.am_explore.proofs.worlds.Worlds.has.Given as goal

abbrev pub decreases-loop-next : goal.decreases-loop-next
decreases-loop-next l = l.next
