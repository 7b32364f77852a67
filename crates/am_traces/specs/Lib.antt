pub mod Observations
pub mod Parts
pub mod Printed
pub mod Read
pub mod Says
pub mod Texts
pub mod Judged
