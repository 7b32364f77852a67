pub mod AttachmentLemmas
pub mod HolderLemmas
pub mod RetryLemmas
pub mod RisingLemmas
pub mod ExpireLemmas
pub mod FreeLemmas
pub mod ListedLemmas
pub mod MomentLemmas
pub mod MountLemmas
pub mod NotifyLemmas
pub mod WaitingLemmas
pub mod WalkLemmas
mod TokenLemmas
mod SameLemmas
