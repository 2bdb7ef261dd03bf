pub mod AreaLaws
pub mod LineLaws
pub mod OutputLaws
pub mod PieceLineLaws
pub mod Promises
pub mod ShortLaws
