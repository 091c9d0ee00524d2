pub mod Home
pub mod Programs
pub mod Further
pub mod Example
