pub mod Times
pub mod Steps
pub mod Answers
pub mod ReadAgain
pub mod Along
