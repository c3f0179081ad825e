pub mod Stops
pub mod Sequences
