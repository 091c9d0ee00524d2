pub mod Standing
pub mod Moving
pub mod Whole
pub mod Answering
pub mod Listing
