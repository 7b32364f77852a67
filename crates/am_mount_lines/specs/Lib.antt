pub mod Escapes
pub mod Lines
pub mod Traps
-- what contracts cite, passed on from one place
pub use Escapes.{code_of, escaped, plain_from, plain_of}
pub use Lines.{IsFaultOf, IsLine, is_dash, misfit_of, number_read, path_told, word_at}
pub use Traps.{trap_of}
pub use declared.mount_line.MountLine.{MountLine}
pub use declared.misfit.Misfit.{Misfit}
pub use declared.misfit.Expected.{Expected}
pub use declared.misfit.LineFault.{LineFault}
pub use declared.trap.Trap.{Trap}
