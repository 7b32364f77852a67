pub mod Uses
pub mod Counts
pub mod View
pub mod Pick
pub mod Order
pub mod Part
pub mod Scan
-- what contracts cite, passed on from one place
pub use Counts.{CountsOneMore, counted}
pub use Order.{AreSame, IsListed, IsOrder, IsTouched, has_last, is_end, is_of, is_off, no_use, passes, row_at, rows_at, use_cmp}
pub use Part.{IsPart, rows_in}
pub use Pick.{Expiry, IsLeast, IsPick, candidates, comes_before, is_due, is_eligible, is_first, is_lesser_name, is_open, may_go, mount_on, pick_of}
pub use Scan.{IsBest, due_at, due_in, expiry_in}
pub use Uses.{HasOneMore, IsInNoMore, IsInToo, entered, is_used, leave_refusal, left, mount_of_walker, no_uses, use_count}
pub use declared.uses.Use.{Use}
