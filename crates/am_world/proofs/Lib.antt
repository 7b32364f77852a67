pub mod GoesLemmas
pub mod SpareLemmas
pub mod ActLemmas
pub mod WentLemmas
pub mod OtherLemmas
pub mod TableLemmas
pub mod BehindLemmas
mod SameLemmas
