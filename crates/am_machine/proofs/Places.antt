-- Kernel and triggers go on agreeing on places.
pub mod Unchanged
pub mod Rows
pub mod Paths
pub mod Added
pub mod Grown
pub mod Left
pub mod Umounts
pub mod Copies
pub mod Attach
pub mod Changes
pub mod Initial
