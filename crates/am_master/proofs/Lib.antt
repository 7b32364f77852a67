pub mod CopyLemmas
pub mod DecimalLemmas
pub mod FaultLemmas
pub mod PlaceLemmas
pub mod PointLemmas
pub mod ReadLemmas
pub mod TextLemmas
