pub mod SectionLaws
pub mod ThroughLaws
pub mod TakenLaws
