pub mod EntryText
pub mod Fault
pub mod Grammar
pub mod LookUp
pub mod Parts
pub mod Stored
pub mod Words
-- what contracts cite, passed on from one place
pub use EntryText.{Row}
pub use Fault.{IsFaultOr}
pub use Grammar.{AreRows, FindsFirst, kept, map_read, row_read, rows_read, with_row}
pub use LookUp.{entry_for, entry_of_row, first_of_each, has_key, or_else, row_for, with_key}
pub use Stored.{added, line_added, row_added, rows_by}
pub use Words.{key_text, star}
pub use declared.fault.MapFault.{MapFault}
pub use declared.fault.MapFaultKind.{MapFaultKind}
pub use declared.kind.MapKind.{MapKind}
