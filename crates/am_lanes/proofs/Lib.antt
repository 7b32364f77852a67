pub mod ChangeLemmas
pub mod IndexLemmas
pub mod LaneLemmas
pub mod ToldLemmas
