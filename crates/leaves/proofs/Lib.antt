pub mod FindLaws
pub mod OwnLaws
pub mod Promises
