pub mod Areas
pub mod ItemText
pub mod Lines
pub mod Output
pub mod PaperNumbers
pub mod PieceLines
