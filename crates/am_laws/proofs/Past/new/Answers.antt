use Rattle.am_laws.proofs.Grows.{remembers_nothing}
use Rattle.am_laws.proofs.Past.new.Goals as goal

pub returns : goal.returns
returns c = remembers_nothing
