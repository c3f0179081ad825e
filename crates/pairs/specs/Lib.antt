pub mod Settling
pub mod Promises
