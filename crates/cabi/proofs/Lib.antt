pub mod HostLaws
pub mod NumberLaws
pub mod Promises
