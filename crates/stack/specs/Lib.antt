pub mod Edits
pub mod Cells
pub mod Stacks
pub mod Shelving
