-- How a mount comes with its copies, one row after another: own choice.
use Rattle.std.specs.Prelude.{◌≡◌, ℕ, List, ◌++◌}
use Rattle.am_names.specs.{MountRow}
use Rattle.am_propagate.specs.MountTable.{MountTable}
use Rattle.am_propagate.specs.Added.{rows_at}

-- behind these rows, one mount comes at this place of each parent, numbered in their order: it is
-- in the namespace that its parent has in a table of these rows
abbrev pub AddsMounts : List (List ℕ) → ℕ → ℕ → ℕ → List ℕ → List MountRow → List MountRow → Type 0
AddsMounts place fs origin number parents old new =
    (t : MountTable) → t.rows ≡ old → new ≡ old ++ rows_at t place fs origin number parents
