pub mod Always
pub mod Kernel
