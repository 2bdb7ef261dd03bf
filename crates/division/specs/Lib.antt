pub mod PiecesAt
pub mod PiecesByRank
