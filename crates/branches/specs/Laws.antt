pub mod Bytes
pub mod InTurn
pub mod Exactly
pub mod Seats
pub mod Deciding
pub mod Hints
pub mod Faults
