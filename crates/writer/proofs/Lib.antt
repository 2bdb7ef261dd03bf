pub mod NodeLaws
pub mod PassLaws
pub mod StepLaws
pub mod WriteLaws
pub mod StackLaws
pub mod AgainLaws
pub mod AnswerLaws
pub mod Promises
