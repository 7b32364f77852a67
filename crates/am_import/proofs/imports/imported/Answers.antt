use Rattle.std.proofs.Common.{List, sym, subst}
use Rattle.am_mount_lines.specs.{MountLine}
use Rattle.am_world.specs.Capacity.{state_of}
use Rattle.am_import.specs.Imported.{AreMountsOf}
use Rattle.am_import.proofs.imports.imported.Goals as goal

pub returns-clause-ok : goal.returns-clause-ok
returns-clause-ok c = record {
  rows = c.in_ok-rows.rows.items;
  mounts = subst (λ (lines : List MountLine). AreMountsOf c.args.text.now lines) (sym c.in_ok-rows.ensures) c.in_ok-lines.ensures.ok;
  script = c.in_ok-played.played.script.items;
  last = state_of c.in_ok-played.played.world;
  leaves = c.in_ok-played.ensures.leaves;
  told_is = rw c.as_slice-3.ensures.value at c.in_ok-told_of.ensures;
}
