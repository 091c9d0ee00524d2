pub mod Stacked
pub mod Holds
pub mod Tables
pub mod Slots
pub mod Putting
pub mod Shelved
