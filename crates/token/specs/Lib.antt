pub mod Table
pub mod State
pub mod Next
pub mod Rows
pub mod Distance
pub mod Reach
pub mod Line
