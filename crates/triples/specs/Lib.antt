pub mod Verdict
pub mod Clash
pub mod Loops
