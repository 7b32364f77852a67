pub mod StoredLemmas
pub mod PacketTypeLemmas
pub mod WriteLemmas
pub mod FormatLemmas
