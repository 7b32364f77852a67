-- What every world keeps: its trace is lawful, and kernel and daemon agree (own choice).
pub mod Traces
pub mod Walks
pub mod Attachments
pub mod Tokens
pub mod Planned
pub mod Books
pub mod Records
pub mod Places
pub mod TriggerMounts
pub mod Failures
pub mod Consistent
