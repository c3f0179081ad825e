pub mod Grammar
pub mod Refusing
pub mod Laws
