pub mod Returned
pub mod Frames
pub mod Contents
pub mod Places
pub mod Telling
pub mod HandedBack
pub mod Promises
