pub mod Returned
pub mod Seeking
pub mod Again
pub mod Promises
