pub mod Tests
pub mod Rows
pub mod Steps
pub mod Laws
pub mod Kept
pub mod Distances
pub mod Reaching
