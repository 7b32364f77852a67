pub mod CallLemmas
pub mod PartLemmas
pub mod RoleLemmas
pub mod RunLemmas
pub mod TallyLemmas
