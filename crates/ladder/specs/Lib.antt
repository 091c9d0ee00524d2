pub mod Rungs
pub mod Lawful
