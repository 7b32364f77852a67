pub mod FindLemmas
pub mod ReadLemmas
pub mod TextLemmas
pub mod WholeLemmas
