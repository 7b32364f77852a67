-- What jobs have left to do stays the rest of a plan.
pub mod Rests
pub mod Acts
pub mod Changes
