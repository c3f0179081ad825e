pub mod Exact
pub mod Judgements
pub mod Encodings
pub mod Ranks
pub mod Rows
pub mod Faults
