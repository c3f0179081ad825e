pub mod LineLaws
pub mod ListLaws
pub mod MainLaws
