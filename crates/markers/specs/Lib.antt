pub mod Returned
pub mod Passing
pub mod Making
pub mod Looking
pub mod Asking
pub mod Promises
