-- From an event to the handful of changes that it makes of the rows, over any relation of states that
-- keeps these changes.
pub mod Walks
pub mod Picked
pub mod Events
