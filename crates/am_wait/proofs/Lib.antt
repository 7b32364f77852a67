pub mod RowLemmas
pub mod TokenLemmas
pub mod CallLemmas
pub mod FindLemmas
pub mod AgreeLemmas
pub mod RisingLemmas
pub mod SeatLemmas
pub mod SeatingLemmas
pub mod KeptLemmas
pub mod CollectLemmas
pub mod FreedLemmas
pub mod SameLemmas
pub mod PutLemmas
pub mod SettledLemmas
pub mod RenewLemmas
pub mod FailLemmas
pub mod ViewLemmas
mod OpeningLemmas
mod CopyLemmas
pub mod AlikeLemmas
