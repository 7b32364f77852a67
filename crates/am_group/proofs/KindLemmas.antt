-- The changes that give up a peer group, by name.
use Rattle.std.proofs.Common.{◌≡◌, ℕ, true, false}
use Rattle.am_names.specs.PeerGroups.{PeerGroups}
use Rattle.am_group.specs.{Change, left, with_row, IsOrderly, IsPeopled, AddsNoReceivers, row_of, gives_up}
use Rattle.am_group.specs.declared.mount_state.Change.TheVariants.{MakeShared, MakeSlave, MakePrivate, MakeUnbindable}
use Rattle.am_group.proofs.ChangeLemmas.{Thins, RowThins, slave_row_thins, bare_thins, row_thins, thin_orderly, thin_law, thin_peopled}

change_thins : (change : Change) (fresh : ℕ) → gives_up change ≡ true → RowThins (row_of change fresh)
change_thins MakeShared fresh e = absurd cc
change_thins MakeSlave fresh e = slave_row_thins
change_thins MakePrivate fresh e = bare_thins false
change_thins MakeUnbindable fresh e = bare_thins true

module _ (change : Change) (fresh : ℕ) (e : gives_up change ≡ true) (m : ℕ) (s : PeerGroups) (orderly : IsOrderly s) where
  thins : Thins s (with_row (row_of change fresh) m s)
  thins = row_thins s (row_of change fresh) m orderly (change_thins change fresh e)

  pub change_orderly : IsOrderly (with_row (row_of change fresh) m s)
  change_orderly = thin_orderly s (with_row (row_of change fresh) m s) thins orderly

  pub change_law : IsPeopled s → AddsNoReceivers s (left s (with_row (row_of change fresh) m s))
  change_law = thin_law s (with_row (row_of change fresh) m s) thins

  pub change_peopled : IsPeopled s → IsPeopled (left s (with_row (row_of change fresh) m s))
  change_peopled = thin_peopled s (with_row (row_of change fresh) m s) thins
