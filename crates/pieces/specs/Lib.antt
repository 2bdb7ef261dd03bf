pub mod Pieces
pub mod Items
pub mod PieceRows
