pub mod KeyLemmas
pub mod TriggerLemmas
mod FailureLemmas
mod FileSystemLemmas
mod SameLemmas
