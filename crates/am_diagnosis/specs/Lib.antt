pub mod Expectations
pub mod Columns
pub mod Events
pub mod Fits
pub mod Heads
pub mod Maps
pub mod Misfits
pub mod Parameters
pub mod Scripts
-- what contracts cite, passed on from one place
pub use Columns.{IsColumn}
