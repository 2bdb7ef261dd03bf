pub mod ReadList
pub mod ListGrammar
pub mod ListMachine
pub mod ListSays
