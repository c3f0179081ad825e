pub mod Sections
pub mod HandedBack
pub mod Promises
