pub mod PlanLemmas
pub mod BookLemmas
pub mod SameLemmas
