mod ListLemmas
mod OrderLemmas
mod LevelLemmas
mod WorldLemmas
mod LeadLemmas
