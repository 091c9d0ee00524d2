pub mod Infer
pub mod Measures
pub mod Judgements
pub mod Hypotheses
pub mod Checks
pub mod Counts
pub mod Printed
pub mod Accepts
