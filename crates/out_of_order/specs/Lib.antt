pub mod Codes
pub mod Gathering
pub mod Tally
pub mod Sheet
pub mod Measuring
pub mod Backward
pub mod Rows
pub mod Promises
