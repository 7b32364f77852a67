-- A world is what its trace tells of it.
pub mod There
pub mod Statuses
pub mod Runs
