pub mod Fault
pub mod Grammar
pub mod MasterRow
pub mod Places
pub mod Points
pub mod ServedPoint
pub mod Stored
pub mod Timeout
pub mod Words
-- what contracts cite, passed on from one place
pub use Fault.{IsFaultOr}
pub use Grammar.{AreRows, StandWithin, is_taken, master_read, once, row_of, row_read, rows_read, served_read, with_row}
pub use Places.{ArePoints, IsNamed, Placed, is_placed, placed_at, placed_from}
pub use Points.{has_point, line_at, point_texts, texts_of}
pub use ServedPoint.{served_of}
pub use Stored.{added, line_added}
pub use Timeout.{number_of, timeout_of, timeout_read, timeout_values}
pub use Words.{below_root, is_direct, point_read}
pub use declared.fault.MasterFault.{MasterFault}
pub use declared.fault.MasterFaultKind.{MasterFaultKind}
pub use declared.point.Point.{Point}
