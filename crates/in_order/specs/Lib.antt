pub mod Entries
pub mod Standing
pub mod Rows
pub mod Promises
