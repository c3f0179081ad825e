pub mod Wrote
pub mod Columns
pub mod Promises
