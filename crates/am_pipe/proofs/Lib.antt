pub mod CountLemmas
pub mod MoveLemmas
pub mod RestLemmas
pub mod MeterLemmas
