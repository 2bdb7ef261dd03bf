pub mod ReadTree
pub mod Grammar
pub mod Machine
pub mod TreeSays
