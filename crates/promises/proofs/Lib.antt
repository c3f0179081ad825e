pub mod Walking
pub mod Older
pub mod Why
pub mod Markers
pub mod Pairs
pub mod Branching
pub mod Proved
pub mod Laws
