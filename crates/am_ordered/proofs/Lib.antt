pub mod BlockLemmas
pub mod CopyLemmas
pub mod OrderLemmas
pub mod RowLemmas
pub mod SameLemmas
pub mod SlotLemmas
pub mod TurnLemmas
