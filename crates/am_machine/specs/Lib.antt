pub mod State
pub mod EventOutcome
pub mod Paths
pub mod Events
pub mod History
pub mod Machine
pub mod Invariant
pub mod Told
pub mod Agreement
pub mod InStep
pub mod Reached
pub mod StepLaws
pub mod Safety
-- what contracts cite, passed on from one place
pub use Agreement.{Agree, AgreeOn, IsMounted, IsPending, IsToAnswer, IsToDeliver, RunsAgree}
pub use EventOutcome.{refused, unless, with_kernel}
pub use Events.Acts.{act_outcome, acted, acted_at, goes_on, mkdir_by, mount_act, mount_by, mount_fails, mount_tried, mounts, record_act, reply_by, rmdir_by, umount_act, umount_by, umount_fails, umount_tried, umounts}
pub use Events.Administration.{attach_outcome, attach_refusal, attached_as, bind_outcome, change_outcome, copy_outcome, drop_outcome, kind_outcome, kind_told, mount_outcome, umount_outcome}
pub use Events.Deliveries.{deliver_outcome, delivered_at, has_bytes, may_take, packet_bytes, recording, takes}
pub use Events.Requests.{admin_catatonic_outcome, catatonic_outcome, die_outcome, reattach_outcome, reattach_refused, record_outcome, repeat_outcome, timeout_outcome}
pub use Events.Walkers.{answer_of, expire_outcome, goes, leave_outcome, resume_outcome, walk_outcome}
pub use History.{answers_of, entries, entry, events_of}
pub use InStep.{AreInStep, RefusesInStep, RunsAreInStep, RunsAreNeverBusy, RunsRefuseInStep}
pub use Invariant.Attachments.{AreKnown, NumbersAreAllocated, RiseTo, is_known, was_attached}
pub use Invariant.Books.{BookAgrees, IsServed, is_pending_for, is_to_record}
pub use Invariant.Consistent.{HalvesAgree, IsConsistent, IsTraced}
pub use Invariant.Failures.{AllSuit, FailedIsFree, FailuresAgree, IsAwaited, IsMended, MountsAreMended, Suits, SuitsItsToken}
pub use Invariant.Places.{HasCopy, HoldsOne, IsCopied, IsLocation, PlacesAgree}
pub use Invariant.Planned.{ArePlanned, IsPlanned, IsRest, has_record_left}
pub use Invariant.Records.{AreOfTheirTokens, IsOfItsToken, is_of_kind}
pub use Invariant.Tokens.{HasToken, IsAtWork, IsInPipe, TokensAgree}
pub use Invariant.Traces.{AgreeOnJobs, AgreeOnOpen, AgreeOnQueue, AgreeOnUses, AgreeOnWaiters, AreDifferent, Asked, FitsTrace, KnowsTokens, PacketFits, Rows, WaitersFit, asked_by, asked_in, has, names, opened, rows_in, rows_of}
pub use Invariant.TriggerMounts.{AreClaimed, AreWritten, OnTriggers, TriggerMountsAgree}
pub use Invariant.Walks.{HasWalk, WalksFit, has_walk, is_name_if_any, is_named}
pub use Machine.{Comes, GoesOnBy, IsLegal, RanOut, Run, Step, after, outcome_of}
pub use Paths.{HasPaths, HavePaths, IsPath}
pub use Reached.{IsReached}
pub use Safety.{RunsAreLawful, RunsFitTheirTraces}
pub use State.{Setup, initial_state_of, limits_in, setup_of}
pub use StepLaws.{AddsNoReceivers, IsLawful, IsUseSeen, MomentsRise, RefusalsChangeNothing, RunsGoOn, StepsAddNoReceivers, StepsAreLawful, StepsTellUses, StepsUnmountNothingInUse, UnmountsNothingInUse}
pub use Told.{AgreeOnStatuses, IsTold, There, then_told, told, told_from, told_in, told_status}
pub use declared.answer.Answer.{Answer}
pub use declared.entry.Entry.{Entry}
pub use declared.event.Event.{Event}
