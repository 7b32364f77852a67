use Rattle.am_names.proofs.SearchLemmas.{sorted_ordered}
use Rattle.am_names.proofs.among.are_ordered.Goals as goal

pub returns : goal.returns
returns c = sorted_ordered c.args.mounts.now _ c.is_sorted.ensures.cases
