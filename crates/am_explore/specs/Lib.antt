pub mod Answers
pub mod Standings
pub mod Choices
pub mod Orders
pub mod WorldLines
pub mod Questions
pub mod Findings
pub mod Levels
pub mod Leads
pub mod Cuts
-- what contracts cite, passed on from one place
pub use Answers.{is_no_memory, is_resume, is_step, is_wait, resumes}
pub use Choices.{acts, choices_of, daemon_choices, deliveries, next_of, thread_choices}
pub use Cuts.{AreCut, HaveNumbers, PartsTellFirst, PartsTellNever}
pub use Findings.{IsFound, IsTallied, MeetsFirst, MeetsIn, NoneBelow, NoneMeets}
pub use Leads.{AreTaken, IsLed, IsMissing, IsTaken, NoneTaken, numbered}
pub use Orders.{IsEnd, IsIn, IsMade, IsOrder, IsStep, Stand, begun_at, choices_at, events_in, stand_of}
pub use Questions.{Fits, HasAnswer, HasLeft, Meets}
pub use WorldLines.{TextHas, has_line, words_fit}
pub use Standings.{Standing, first_of, first_standings, moved, next_after, went}
pub use declared.choice.Choice.{Choice}
pub use declared.choice.Who.{Who}
pub use declared.led.Led.{Led}
pub use declared.question.Question.{Question}
pub use declared.question.Sought.{Sought}
pub use declared.scene.Scene.{Scene}
pub use declared.search.Found.{Found}
pub use declared.search.Seen.{Seen}
pub use declared.search.Tally.{Tally}
pub use declared.standing.Heard.{Heard}
