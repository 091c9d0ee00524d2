pub mod Reasons
pub mod Steps
pub mod Additions
pub mod Strides
pub mod Lawful
pub mod Walks
pub mod Standing
pub mod Worked
