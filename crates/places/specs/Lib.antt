pub mod PieceRanks
pub mod Nodes
pub mod Marks
