pub mod Laws
pub mod Surveying
pub mod Putting
pub mod Listing
pub mod InOrder
pub mod Same
