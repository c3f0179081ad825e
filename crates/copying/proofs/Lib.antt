pub mod Laws
pub mod Measuring
pub mod Putting
pub mod Same
