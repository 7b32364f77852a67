-- Rows that rise by their numbers: own choice, a new number is above all that were given.
use Rattle.am_names.specs.{RiseBy}
use Rattle.std.specs.Prelude.{List}
use Rattle.am_state.specs.{QueuedRow}
use Rattle.am_kernel.specs.declared.holder.Holder.{Holder}
use Rattle.am_kernel.specs.declared.row.Attached.{Attached}

-- the rows stand in rising order of file system, and each file system has one
abbrev pub RiseByFs : List Attached → Type 0
RiseByFs rows = RiseBy (λ (row : Attached). row.fs) 0 rows

-- they stand in rising order of attachment, and each attachment is there once
abbrev pub RiseByAttach : List Holder → Type 0
RiseByAttach holders = RiseBy (λ (holder : Holder). holder.attach) 0 holders

-- the packets stand in rising order of token, and each token has one
abbrev pub RiseByToken : List QueuedRow → Type 0
RiseByToken rows = RiseBy (λ (row : QueuedRow). row.token) 0 rows
