pub mod Entries
pub mod Payloads
pub mod Listings
