pub mod PieceLaws
pub mod PosedLaws
pub mod Promises
