pub mod Plans
pub mod Laws
pub mod Left
pub mod Job
pub mod JobView
pub mod Book
pub mod Capacity
pub mod View
-- what contracts cite, passed on from one place
pub use Book.{IsRecorded, record_of, record_row, recorded, with_record, without_fs, without_record}
pub use Capacity.{BookTable}
pub use Job.{JobState, plan_of}
pub use Laws.{AcknowledgesLast, ClaimsFollow, ClaimsRight, IsEnded, IsLawful, RecordsFirst, claimed_first}
pub use Left.{plan_left}
pub use Plans.{Ended, Next, Plan, after_failed_mount, after_failed_umount, after_mount, after_umount, at_directory, book_and_reply, claims, is_reply, mount_entry, mount_in, next_of, plan_for, reply, rest_of, rest_of_mount, rest_of_umount, unmounting, without_mount}
pub use declared.act.Act.{Act}
pub use declared.act.Outcome.{Outcome}
