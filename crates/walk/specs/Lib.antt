pub mod Returned
pub mod Sections
pub mod Steps
pub mod Surveys
pub mod Promises
