pub mod LeafPlaces
pub mod PairLaws
pub mod Promises
pub mod RankLaws
pub mod StepLaws
pub mod StrayLaws
