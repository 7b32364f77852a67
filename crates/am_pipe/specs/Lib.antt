pub mod Ends
pub mod Meter
pub mod Rule
-- what contracts cite, passed on from one place
pub use Ends.{AreAsPut, IsDrained, IsFull, Putter, Taker, fresh_taker, has_room, once_to, taken_by, total}
pub use Meter.{IsMeter, asked, ended, freed_one, fresh_view, looked, put_one, read_by, told}
pub use Rule.{AllFitPipe, AreTaken, FitsPipe, HoldsRest, IsPipe, KnowsAll, Puts, Takes, end_view, known, numbered, weigh, weigh_to}
pub use declared.note.Note.{Note}
pub use declared.rule.EndView.{EndView}
pub use declared.meter.MeterView.{MeterView}
