pub mod ColumnLemmas
pub mod EventLemmas
pub mod HeadLemmas
pub mod JoinLemmas
pub mod LawLemmas
pub mod MapLemmas
pub mod MisfitLemmas
pub mod ScriptLemmas
