-- A pending record stays one of its token.
pub mod Tokens
pub mod Changes
