pub mod JoinLemmas
pub mod PlaceLemmas
pub mod RowLemmas
pub mod SetLemmas
pub mod CopyLemmas
pub mod EntryLemmas
