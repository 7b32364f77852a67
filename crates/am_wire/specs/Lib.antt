pub mod Fault
pub mod PacketType
pub mod Stored
pub mod StoredView
pub mod Fields
pub mod Format
pub mod Head
-- what contracts cite, passed on from one place
pub use Fields.{fields_of}
pub use Format.{FailsFirst, IsPacket, IsWritable, canonical, has_length, may_have_length}
pub use Head.{HasFittingNumbers, IsHead, head_bytes, head_of}
pub use PacketType.{is_indirect, kind_number, kind_of, kind_read, token_kind}
pub use Stored.{IsStored, padded}
pub use declared.fault.WireFault.{WireFault}
pub use declared.packet.Packet.{Packet}
pub use declared.request.Request.{Request}
