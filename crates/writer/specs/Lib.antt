pub mod Write
pub mod Passes
