pub mod AnswerWords
pub mod Asking
pub mod Faults
pub mod Leading
pub mod QuestionWords
pub mod Reading
pub mod SceneLines
pub mod SceneText
pub mod ServiceWords
pub mod SoFar
pub mod View
pub mod Way
-- what contracts cite, passed on from one place
pub use AnswerWords.{sought_read}
pub use Asking.{AskedLine, Asks, AsksAnswer, AsksLine, AsksNoLine, AsksWait, asked_line, asks_of}
pub use Faults.{fault_at, fault_of_script, kind_number, kind_of_script}
pub use Leading.{IsLed, HadMemory}
pub use QuestionWords.{are_world_words, no_line_read, question_read}
pub use Reading.{IsScene, NoRoom, NoScene, so_far_of}
pub use SceneLines.{after_line, scene_from}
pub use SceneText.{scene_of}
pub use ServiceWords.{service_read}
pub use SoFar.{SceneSoFar, Unended, nothing_said}
pub use Way.{begins_scene, way_from}
pub use declared.asked.Asked.{Asked}
pub use declared.asked.Claim.{Claim}
pub use declared.fault.SceneFault.{SceneFault}
pub use declared.fault.SceneFaultKind.{SceneFaultKind}
pub use declared.told.Told.{Told}
