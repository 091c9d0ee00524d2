pub mod Readings
pub mod Runs
