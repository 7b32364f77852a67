pub mod LineLemmas
pub mod SceneLemmas
pub mod ServiceLemmas
pub mod TextLemmas
pub mod WayLemmas
