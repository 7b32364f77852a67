use Rattle.std.proofs.Common.{rules}
use Rattle.am_names.proofs.NameStored.{stored_put}
use Rattle.am_names.proofs.name.Name.of.Goals as goal

pub invariant_of-result : goal.invariant_of-result
invariant_of-result c = stored_put c.args.bytes.now c.copy_from_slice.new.self c.copy_from_slice.ensures.after (search rules) c.requires
