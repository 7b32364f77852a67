use Rattle.am_explore.proofs.begun.Begun.meets.Goals as goal

pub returns-in-Shows : goal.returns-in-Shows
returns-in-Shows c = rw c.in-Shows.is (rw c.as_slice-in-Shows.ensures.value at c.shows.ensures)

pub returns-in-Lacks : goal.returns-in-Lacks
returns-in-Lacks c = rw c.in-Lacks.is (rw c.as_slice-in-Lacks.ensures.value at c.lacks.ensures)
