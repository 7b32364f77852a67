pub mod Buckets
pub mod Errno
pub mod FailNo
pub mod Limits
pub mod Member
pub mod MemberView
pub mod Memberships
pub mod Name
pub mod NameHash
pub mod NameView
pub mod Numbers
pub mod Path
pub mod PathFaults
pub mod PeerGroups
pub mod Trigger
-- what contracts cite, passed on from one place
pub use Buckets.{bucket}
pub use Errno.{RefusedAs, RefusedOnlyAs, errno_number}
pub use FailNo.{errno_of, fail_no_numbered, fail_number}
pub use Limits.{IsInRange, is_in_range}
pub use Member.{MemberRow}
pub use Memberships.{group_with, is_unbindable, master_with, membership_where, row_with, slave_with}
pub use Name.{IsStored, is_dots, is_name, is_name_byte, name_read, padded}
pub use Numbers.{RiseBy, is_among}
pub use Path.{IsCanonical, begins_with_slash, is_slash, names_of, parts_of, parts_read, path_read, same_names, text_of, with_name}
pub use PathFaults.{AreNames, fault_or, first_fault, name_fault, part_fault}
pub use Trigger.{same_name, same_trigger}
pub use contracts.trigger.TriggerPartialEq.TheImpl.{eq-value}
pub use declared.membership.Membership.{Membership}
pub use declared.row.GroupRow.{GroupRow}
pub use declared.row.MountRow.{MountRow}
pub use declared.row.OpenToken.{OpenToken}
pub use declared.row.Position.{Position}
pub use declared.row.TokenKind.{TokenKind}
pub use declared.row.WaitRow.{WaitRow}
pub use declared.trigger.PipeState.{PipeState}
pub use declared.trigger.Status.{Status}
