pub mod ListLaws
pub mod LookupLaws
pub mod MarkLaws
pub mod Promises
pub mod ReadLaws
