pub mod EventText
pub mod ObsText
pub mod Traced
pub mod Whole
-- what contracts cite, passed on from one place
pub use EventText.{event_text, status_part}
pub use ObsText.{obs_lines, obs_text, trigger_part}
pub use Traced.{count_part, number_part, printed_trace, shown_text, traced}
pub use Whole.{HeadStops, one_more}
pub use declared.trace.TraceStyle.{TraceStyle}
