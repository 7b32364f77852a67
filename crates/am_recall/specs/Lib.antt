pub mod Lines
pub mod Recall
-- what contracts cite, passed on from one place
pub use Lines.{LeavesLines, left_lines, raw_lines}
pub use Recall.{IsOf, is_ended}
