pub mod LookLaws
pub mod AskLaws
pub mod Widths
pub mod PassLaws
pub mod IndexLaws
pub mod PutLaws
pub mod MarkLaws
pub mod MakeLaws
