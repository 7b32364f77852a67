pub mod Order
pub mod Capacity
pub mod Lookup
pub mod View
pub mod RowTable
pub mod RowView
-- what contracts cite, passed on from one place
pub use Lookup.{insert_entry, shift_remove_entry}
pub use Order.{IsIndexOf, IsOrderOf, renamed, times}
pub use declared.ordered.Slot.{Slot}
