pub mod State
pub mod Same
pub mod Points
pub mod Lent
pub mod Attachments
pub mod Packets
pub mod Deliveries
pub mod Recordings
pub mod Acts
pub mod Faults
pub mod JobTable
pub mod View
pub mod Held
pub mod Known
pub mod KnownAt
-- what contracts cite, passed on from one place
pub use Acts.{OthersStay, book_after, finish_refusal, finished, finished_in, going, is_ended, next_act_of, next_in, refusal_in, walked, writes, writing_of, writing_refusal}
pub use Attachments.{AreOnce, all_mounted, attach_held, dead, held_as, holds, is_attached, known_at, knows, reattach_refusal, reattached, with_attachment}
pub use Deliveries.{IsTakenUp, delivery_fault, is_busy, job_for, job_of, taken_up}
pub use KnownAt.{known_row}
pub use JobTable.{AreKnown, IsSingle, JobRows, has_turn, is_among, tokens_of}
pub use Packets.{is_pending, mounted_for, mounted_in, name_in, pending, pending_of, plan_of_packet, trigger_of}
pub use Points.{Line, entry_of, has_key, has_point, line_timeout, lines_of, point_of}
pub use State.{DaemonState, DaemonTable, IsCopy, JobPlan, job_plan, rows_of}
pub use declared.acts.Writing.{Writing}
pub use declared.fault.DaemonFault.{DaemonFault}
pub use declared.served.Point.{Point}
