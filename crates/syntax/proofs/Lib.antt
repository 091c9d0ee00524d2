pub mod Examples
pub mod Lexing
pub mod Scanning
pub mod TypeSteps
mod Order
pub mod NameSteps
pub mod FirstSteps
pub mod TermSteps
pub mod ReadSteps
pub mod Readings
pub mod LayoutSteps
pub mod WholeSteps
pub mod Agreement
