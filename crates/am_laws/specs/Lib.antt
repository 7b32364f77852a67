pub mod OneObservation
pub mod Counts
pub mod TraceLaws
pub mod Fold
pub mod Tests
pub mod Lately
pub mod Breaches
-- what contracts cite, passed on from one place
pub use Breaches.{Breaks, IsFirstBreach, law_number, sentence_of}
pub use Counts.{AsksToExpire, IsExpiring, IsInRow, IsOpen, IsQueued, dev_of, first_of, fs_of_token, packet_of, uses}
pub use Fold.{AreLawful, IsLawfulAt, begins_with_released}
pub use Lately.{AreSettled, AreUpTo, Remembers, Settles, WereLawful, WereSettled, can_close, greatest_with, is_lawful_lately, is_pending}
pub use OneObservation.{closes, closes_as, delivers, enters, expires, is_expire, is_fs, is_no_entry_fail, is_queued, is_released, is_same_packet, is_same_status, leaves, packet_in, queues, queues_as, releases, trigger_of, unqueues, waits}
pub use Tests.{Has, HasNo, HasSince, all_released, are_lawful, asks, ends_in_row, is_cause, is_closed, is_expiry, is_in_queue, is_in_row, is_lawful_at, is_let_go, is_open, is_unused, may_be_released, since}
pub use TraceLaws.{AllReleased, Closes, EndsInRow, Lawful, MayBeReleased}
