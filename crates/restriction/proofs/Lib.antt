pub mod EntryLaws
pub mod FlaggedLaws
pub mod KeptLaws
pub mod PassLaws
pub mod ResultLaws
pub mod LeafLaws
pub mod Promises
pub mod RestrictionLaws
