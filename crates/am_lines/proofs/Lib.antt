pub mod Cuts
pub mod LineLemmas
pub mod ReachedLemmas
