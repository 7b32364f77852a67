use Rattle.am_explore.proofs.level.Level.index_of.Given as goal

abbrev pub decreases-loop-next : goal.decreases-loop-next
decreases-loop-next l = l.next
