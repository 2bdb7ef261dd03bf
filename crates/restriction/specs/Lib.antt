pub mod Flagged
pub mod Kept
pub mod KeptMachine
