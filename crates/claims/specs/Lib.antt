pub mod Claim
pub mod Judge
pub mod PaperNumbers
