pub mod Laws
pub mod Checks
pub mod Sizes
pub mod Verdicts
pub mod Puts
pub mod Payloads
