pub mod ShapeLaws
pub mod ByteLaws
pub mod WayLaws
pub mod PieceSteps
pub mod LocalSteps
pub mod Steps
pub mod Same
