pub mod Rewritten
pub mod Listed
pub mod Promises
