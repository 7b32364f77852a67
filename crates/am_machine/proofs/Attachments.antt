-- The numbers of attachments, of file systems and of jobs, and what the daemon knows of them.
pub mod Grows
pub mod Current
pub mod Held
pub mod Known
pub mod Rows
pub mod Acts
pub mod Changes
