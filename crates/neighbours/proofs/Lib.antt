pub mod Laws
pub mod WholeLaws
pub mod Same
