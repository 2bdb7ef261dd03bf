pub mod JudgeLaws
pub mod Promises
pub mod TellLaws
pub mod VerdictLaws
