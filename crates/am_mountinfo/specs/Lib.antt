pub mod Attachments
pub mod Lasting
pub mod Mountinfo
pub mod Notes
pub mod Opens
pub mod Paths
pub mod Peers
pub mod Printed
pub mod Residents
pub mod Tables
pub mod WorldText
-- what contracts cite, passed on from one place
pub use Attachments.{AreAttachments, HasOneAttachmentMore, attachment}
pub use Lasting.{failure_note, held_note, known_note, made_note, used_note}
pub use Mountinfo.{AreNamespaces, ArePlaced, attached_in, below, byte_text, dominating, has_peer, is_number, is_of_fs, masters_from, mount_line, namespace_text, namespaces_text, parent_in, parent_of, path_among, path_of}
pub use Notes.{act_text, fs_notes, job_note, packet_note, record_note, token_note, use_note, walk_note, walkers_text}
pub use Opens.{opens_text, row_note}
pub use Paths.{ArePaths, HasOneMore}
pub use Peers.{ArePeers}
pub use Printed.{part_text}
pub use Residents.{AreResidents}
pub use WorldText.{AllShown, EventsPlayed, IsCut, IsNowhere, is_nowhere, IsWritten, NotPlayed, NotWritten, ShowStops, ShownFrom, ShowsInput, StopsShowing, WorldShown, last_line, ran_out}
