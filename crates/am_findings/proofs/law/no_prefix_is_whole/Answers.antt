use Rattle.am_findings.proofs.WholeLemmas.{is_whole}
use Rattle.am_findings.proofs.law.no_prefix_is_whole.Goals as goal

pub returns : goal.returns
returns c = is_whole
