pub mod Escaping
pub mod Found
pub mod Numbers
pub mod Tails
