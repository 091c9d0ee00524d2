pub mod Labels
pub mod Network
pub mod Memory
pub mod Derivations
pub mod Theorems
pub mod Examples
