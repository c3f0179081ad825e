pub mod Lines
pub mod Input
pub mod Promises
pub mod Determined
