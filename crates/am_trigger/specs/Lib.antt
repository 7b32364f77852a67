pub mod Sites
pub mod Rows
pub mod Capacity
pub mod View
pub mod Failures
pub mod FailureTable
pub mod FailureView
pub mod FileSystemTable
pub mod FileSystemView
-- what contracts cite, passed on from one place
pub use Capacity.{KeepsRoom, TriggerTable}
pub use Failures.{FailureRows, error_while, failing, failure_of, with_failure, without_failure, without_failures}
pub use Rows.{AreOnce, IsUseIndex, TriggerRows, add_refusal, all_used, all_used_in, autofs_of, catatonic_refusal, catatonic_row, is_made, last_use_in, last_use_of, mkdir_refusal, no_triggers, rmdir_refusal, used, used_in, with_autofs, with_catatonic, with_directory, without_directory}
pub use Sites.{place_named, place_of, trigger_in}
pub use declared.autofs.Autofs.{Autofs}
pub use declared.failures.Failure.{Failure}
pub use declared.failures.Lasting.{Lasting}
