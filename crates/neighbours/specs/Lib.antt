pub mod Returned
pub mod Maps
pub mod Promises
