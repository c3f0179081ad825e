pub mod Returned
pub mod Seeking
pub mod Steps
pub mod Stepping
pub mod Finding
pub mod Telling
pub mod Judging
pub mod Promises
