-- The triggers that the kernel has written down are there.
pub mod Walks
pub mod Rows
pub mod Changes
