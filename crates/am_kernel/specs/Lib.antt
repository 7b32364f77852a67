pub mod State
pub mod Same
pub mod Lookups
pub mod CallOutcome
pub mod Observations
pub mod Catatonic
pub mod Walks
pub mod Waited
pub mod Resumes
pub mod Expires
pub mod Previews
pub mod Requests
pub mod Attachments
pub mod Directories
pub mod DaemonMounts
pub mod Granted
pub mod Administration
pub mod Namespaces
pub mod WalkTable
pub mod Rising
pub mod Holders
pub mod AttachmentTable
pub mod View
-- what contracts cite, passed on from one place
pub use Administration.{bind_refusal, bind_tests, bound_at, change_tests, changed_at, gone_at, is_any_on_autofs, is_daemons, is_parent_on_autofs, kind_at, kind_refusal, mount_refusal, mount_tests, mounting, mounting_at, plain_change_refusal, plain_gone, plain_umount_refusal, site_refusal, source_refusal, umount_tests, with_bind, with_changed, with_plain, without_plain}
pub use Attachments.{pipe_refusal, reattached_row, with_pipe}
pub use CallOutcome.{Fails, IsAsBefore, Proceeds, Yields, at_moment, moment_of, with_latest}
pub use Catatonic.{admin_catatonic_refusal, catatonic_observations, catatonic_observations_if_live, catatonic_refusal, failures, is_packet_of, made_catatonic, made_catatonic_if_live}
pub use DaemonMounts.{attach_tests, attached_at, attached_row, attaching, attaching_at, autofs_refusal, coming, gone_from, gone_with, is_there, is_there_in, is_top_at, is_top_of, location_in, location_of, mount_on_refusal, mounted_on, new_fs_refusal, standing, standing_in, standing_mount, standing_of, standing_on, standing_row, trigger_at, trigger_position, trigger_under, trigger_under_mount, trigger_under_row, umount_from_refusal, with_attached, with_mount, with_mount_on, without_mounts}
pub use Directories.{directory_refusal, is_any_mounted_on, is_indirect, is_mountpoint, mkdir_refusal, names_directory, rmdir_refusal, with_directory, without_directory}
pub use Expires.{expire_at, expire_outcome, expires_by, expires_next, expiry_of, with_expiring}
pub use Holders.{AreHeld, holder_of, is_attached, is_held}
pub use Lookups.{attach_of, attach_refusal, from_position, fs_of_attach, fs_refusal, is_attached_by, is_busy, is_current, is_live, is_live_row, is_on_autofs, is_trigger, is_trigger_of, latest_attach, open_scene, or_else, position_at, root_refusal, scene_of, tested}
pub use Namespaces.{with_namespace, without_namespace}
pub use Observations.{passes, releases}
pub use Previews.{arrival_again_of, arrival_in, arrival_of, arrived_at}
pub use Requests.{acknowledged, answer_refusal, answer_tests, answering, is_number, leave_seen, leaving, queued_of, settled_by, timeout_refusal, timeout_row, token_fs, with_timeout, without_packet, without_use}
pub use Resumes.{expired_as, expiry_finished_as, failed, max_attempts, next_attempt, or_failed, resume_at, resumed_as, resumed_at, resumed_by, resumed_walk, retry, retry_failed, retry_for, wait_collected, wait_collected_from, walk_in}
pub use Rising.{RiseByAttach, RiseByFs, RiseByToken}
pub use State.{KernelState, initial}
pub use Waited.{HasNoOpenWait, expired_uses, wait_collected_as, waited_for, waited_on, waits_collected, walks_ended}
pub use WalkTable.{IsSingle}
pub use Walks.{arrived, attempted_with, first_attempt, joins, notified, notifies, notifies_by, packet_for, walk_at, walk_outcome, walk_row, with_joined, with_notified, with_walk, without_walk}
pub use declared.holder.Holder.{Holder}
pub use declared.progress.Attempt.{Attempt}
pub use declared.progress.Progress.{Progress}
pub use declared.row.Attached.{Attached}
pub use declared.row.WalkRow.{WalkRow}
