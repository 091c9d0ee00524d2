pub mod Ports
pub mod Sound
