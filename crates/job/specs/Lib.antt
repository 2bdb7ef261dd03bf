pub mod Answered
pub mod JobOutcome
pub mod NamedPlaces
pub mod PaperNumbers
pub mod PaperTable
pub mod Printed
pub mod Sides
