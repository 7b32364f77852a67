pub mod Bars
pub mod Changes
pub mod Inside
pub mod View
-- what contracts cite, passed on from one place
pub use Bars.{IsNextEnding, ended, ended_lane, ends, ends_lane, is_free, is_in, is_of, lane_for, lane_of, may_take, placed, sighted, with_lane}
pub use Changes.{BarsAreTold, Change, HasBar, HaveBars, NobodyLosesALane, TakeNoOthers, TakesNoOthers, bar_behind, behind_all, behind_change, grown_by, resting, with_room}
pub use declared.holder.Ending.{Ending}
pub use declared.holder.Holder.{Holder}
pub use declared.holder.Look.{Look}
