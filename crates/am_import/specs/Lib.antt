pub mod Firsts
pub mod Imported
pub mod Likeness
pub mod Notes
pub mod Played
pub mod Taken
pub mod Told
-- what contracts cite, passed on from one place
pub use Firsts.{AreFirsts, AreShown}
pub use Imported.{AreMounts, AreMountsOf, ImportsInput, IsFirstBad, IsImport, IsUnplayed, Leaves, StopsImporting, begins_space, mount_texts}
pub use Likeness.{is_on, parent_place, place_of, showing_of, stands_for, unlikeness}
pub use Notes.{notes_text}
pub use Told.{AreTold}
pub use declared.likeness.Row.{Row}
pub use declared.likeness.Unlike.{Unlike}
pub use declared.imports.ImportFault.{ImportFault}
