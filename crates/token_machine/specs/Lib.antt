pub mod Passages
pub mod Passing
pub mod Tokens
pub mod Readings
