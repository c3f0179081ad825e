pub mod Returned
pub mod Opcodes
pub mod Immediates
pub mod Locals
pub mod Ways
pub mod Laws
pub mod Promises
