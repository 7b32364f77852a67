pub mod WalkLemmas
pub mod LawLemmas
pub mod RestLemmas
