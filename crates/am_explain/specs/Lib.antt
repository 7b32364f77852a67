pub mod Excerpts
pub mod Help
pub mod Notes
pub mod SceneExpectations
pub mod SceneHelp
pub mod SceneSlips
-- what contracts cite, passed on from one place
pub use Help.{HelpsWith}
pub use SceneHelp.{SceneHelpsWith}
