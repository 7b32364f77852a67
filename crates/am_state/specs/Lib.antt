pub mod Packets
pub mod PacketView
-- what contracts cite, passed on from one place
pub use Packets.{with_token}
pub use declared.daemon_row.HeldRow.{HeldRow}
pub use declared.daemon_row.KnownRow.{KnownRow}
pub use declared.daemon_row.Record.{Record}
pub use declared.daemon_row.RecordRow.{RecordRow}
pub use declared.kernel_row.QueuedRow.{QueuedRow}
pub use declared.obs.Obs.{Obs}
