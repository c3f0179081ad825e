pub mod Asking
pub mod HandedBack
pub mod Promises
