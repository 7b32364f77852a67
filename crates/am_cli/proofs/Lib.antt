pub mod AskedLemmas
pub mod ChoiceLemmas
pub mod CommandLemmas
pub mod Ends
pub mod PartLemmas
