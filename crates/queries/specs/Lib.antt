pub mod FirstMarks
pub mod ListRead
pub mod Missing
pub mod Query
pub mod RankedList
