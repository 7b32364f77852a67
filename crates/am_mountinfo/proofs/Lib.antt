mod AttachmentLemmas
mod Inputs
mod MasterLemmas
pub mod MorePieces
mod NamespaceLemmas
mod PathLemmas
mod Placed
mod PlayLemmas
mod PrintLemmas
mod RowLemmas
