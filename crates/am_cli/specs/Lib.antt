pub mod Args
pub mod Choices
pub mod CommandLine
pub mod Help
pub mod Hints
pub mod Program
pub mod Telling
pub mod Topics
-- what contracts cite, passed on from one place
pub use Args.{RefusedFor, fault_number}
pub use Choices.{prefix_of}
pub use CommandLine.{IsCommand, IsNumber, draw_app, explore_app, help_app, import_app, judge_app, script_app, serve_app}
pub use CommandLine.{threads_app, trace_app, world_app}
pub use Program.{DrawStopped, Drawn, Exits, ExploreStopped, Explored, Helped, ImportStopped, Imported, JudgeStopped}
pub use Program.{Judged, NotHelped, NotRun, NotVersioned, Played, Ran, SaysWhole, ServeStopped, Served, ShowStopped}
pub use Program.{Shown, Stopped, TraceStopped, Traced, Untold, Versioned, rounds_line, status_of_findings}
pub use Program.{status_of_verdict, style_of}
pub use declared.args.ArgsFault.{ArgsFault}
