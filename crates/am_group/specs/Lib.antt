pub mod Propagation
pub mod Changes
pub mod MountStates
pub mod Members
pub mod Invariant
pub mod Scan
pub mod Indexed
pub mod View
pub mod Copies
pub mod Tables
pub mod Lifting
pub mod Receivers
pub mod Walk
-- what contracts cite, passed on from one place
pub use Changes.{at_row, changed, cleared, has_members, is_just, is_kept, left, lifted, lifted_group, lifted_member, made_private, made_shared, made_slave, made_unbindable, private_row, settled, shared_from, shared_row, shared_where, slave_from, slave_row, unbindable_row, up, up_within, with_group, with_only, with_row, without}
pub use Copies.{AreOfReceivers, added, all_added, copied, copies_from, copy_row, group_copies, has_receiver, rank, receiving_groups, stand_in}
pub use Indexed.{AllAreAdded, AllRise, AreAdded, AreIndexed, AreMoved, AreWith, AreWithout, GroupsAreAdded, HasGroupRoom, HaveRoom, HaveSameLists, IsWithGroup, IsWithoutGroup, ListGroups, ListMembers, Moves, RoomFor, groups_where, has_master, is_below_it, is_in, mounts_where}
pub use Invariant.{AddsNoReceivers, HasMembers, IsGroup, IsMaster, IsOrderly, IsPeopled, IsSound, RiseFrom}
pub use Lifting.{AreApart, AreLifts, DropsAll, KeepsRooms, Links, LinksOne, Unlinks, UnlinksOne, at_group, at_groups, at_rows, gets_master, gets_one, group_under, is_other_than, lift_group, lift_in, lift_member, lift_of, under_from, under_master}
pub use Members.{above, below, change_refusal, has_peopled_master, is_group, may_be_master, may_have, no_mounts, with_member, without_newest}
pub use MountStates.{FollowsTable, alone_in, has_others, is_alone, kind_after, kind_of, kind_of_row, kind_where, lone_kind, shared_kind}
pub use Propagation.{PropagatesBy, PropagatesTo, Receives, group_in, group_of, group_row, master_in, master_of, master_of_group, master_where, member_row, slave_in}
pub use Receivers.{group_numbers, groups_under, home_group, home_in, is_at_or_under, is_under, peopled_up, receivers_of, receives, under_these}
pub use Scan.{is_one_of, numbers}
pub use Tables.{AreLive, AreLost, gives_up, goes_whole, has_none_left, is_free_group, is_free_member, is_free_of, is_not_alone, is_other_in, not_alone_in, past, past_group, past_member, row_of, without_groups}
pub use Walk.{AreMet, count, homed_at, live_below, reached, turns_of, turns_where}
pub use declared.mount_state.Change.{Change}
pub use declared.mount_state.MountState.{MountState}
pub use declared.indexes.Indexes.{Indexes}
