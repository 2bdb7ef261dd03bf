pub mod CommonRanks
pub mod LoneLeaves
pub mod Outcome
pub mod OwnLeaves
pub mod PairRead
pub mod TwoTrees
