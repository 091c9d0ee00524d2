pub mod Deciding
pub mod Stepping
pub mod Empty
pub mod Replies
