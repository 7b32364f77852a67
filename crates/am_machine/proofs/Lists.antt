-- What is true of lists whose rows are looked up by a number.
pub mod Counts
pub mod Different
pub mod Found
