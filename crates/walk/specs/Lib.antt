pub mod Words
pub mod Refusing
