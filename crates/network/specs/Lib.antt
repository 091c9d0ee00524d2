pub mod Parts
pub mod Plan
pub mod Laying
pub mod Wiring
pub mod Building
