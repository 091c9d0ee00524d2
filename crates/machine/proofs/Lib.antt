pub mod Ways
pub mod Retracing
pub mod Going
pub mod Counted
