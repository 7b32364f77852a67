pub mod CopyLemmas
pub mod FaultLemmas
pub mod FirstLemmas
pub mod ReadLemmas
pub mod StoredLemmas
