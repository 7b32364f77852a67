pub mod Verdicts
pub mod Texts
pub mod Explored
pub mod Whole
-- what contracts cite, passed on from one place
pub use Explored.{Answers, AnswersFrom, AreFound, ExploresInput, IsCounted, IsExplored, IsPart, IsSearched, IsUntold}
pub use Explored.{LacksChoice, StopsExploring, choices_left, first_of, nobody_asks, start_of, unseen}
pub use Texts.{answers_text, count_text, finding_text, findings_text, order_text}
pub use Whole.{IsWholeWithout}
pub use Verdicts.{joined, verdict_of, verdict_on}
pub use declared.explore.ExploreFault.{ExploreFault}
pub use declared.explore.Part.{Part}
pub use declared.verdict.Verdict.{Verdict}
