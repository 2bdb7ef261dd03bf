pub mod Find
pub mod Numbered
