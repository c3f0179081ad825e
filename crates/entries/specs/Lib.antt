pub mod Counting
pub mod Putting
pub mod Listing
pub mod Promises
