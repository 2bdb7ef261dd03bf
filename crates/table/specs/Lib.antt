pub mod Choice
pub mod Columns
pub mod Solving
pub mod Table
pub mod Weighing
