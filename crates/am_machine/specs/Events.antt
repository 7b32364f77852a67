-- What each event comes to (the files name their sources).
pub mod Administration
pub mod Walkers
pub mod Deliveries
pub mod Acts
pub mod Requests
