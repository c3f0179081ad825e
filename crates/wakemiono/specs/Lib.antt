pub mod Boundary
pub mod Why
pub mod Pairs
pub mod Arriving
pub mod Shared
pub mod Calls
