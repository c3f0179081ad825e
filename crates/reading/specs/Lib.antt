pub mod Returned
pub mod Texts
pub mod Cursors
pub mod Taken
pub mod Standing
pub mod Promises
