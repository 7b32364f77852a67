pub mod MountTable
pub mod Invariant
pub mod View
pub mod Removed
pub mod Added
pub mod Joining
pub mod Grown
pub mod Changed
pub mod Namespaces
pub mod NewMounts
pub mod Copying
pub mod Coming
pub mod NamespaceCopies
pub mod ReceiverCopies
pub mod GroupsOfCopies
-- what contracts cite, passed on from one place
pub use Added.{HasSource, fresh_count, fresh_groups, fs_in, groups_made, is_unbindable, last_fresh, membership_in, membership_of, mount_refusal, mounted, mounts_made, new_group, new_groups, new_members, new_mounts, ns_in, numbers_after, row_at, rows_at, stands}
pub use Changed.{with_change}
pub use GroupsOfCopies.{ComesShared, ComesUnshared, IsAsSource, IsConcerned, IsGroupBy, IsReceiversOnly, IsReceiving, Joins, JoinsBy}
pub use Grown.{grown}
pub use Invariant.{IsWhole, ShareFs}
pub use Joining.{AreNew, in_64_bits, others_of, stand_of}
pub use MountTable.{all_mounts, is_mount, mountpoint_in, mountpoint_of, opening}
pub use NamespaceCopies.{AreCopies, IsJoinedIn, IsReduced}
pub use Namespaces.{copy_number, copy_refusal, count_up_to, in_form, member_in, position_in, row_in, with_copy}
pub use NewMounts.{IsNewMount, KeepsMounts}
pub use ReceiverCopies.{ComesAs, ComesWithCopies, IsMountedAt}
pub use Removed.{LeavesParents, bare_top, drop_refusal, goes_with, if_bare, is_bare, is_namespace, is_top_at, is_top_on, mounts_in, removed, umount_refusal, unmounted}
pub use declared.subtree.namespace.CopyForm.{CopyForm}
pub use declared.subtree.stand_ins.StandIns.{StandIns}
