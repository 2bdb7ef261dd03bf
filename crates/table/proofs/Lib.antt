pub mod ColumnLaws
pub mod FillLaws
pub mod Promises
pub mod RecurrenceLaws
pub mod RowLaws
pub mod SolveLaws
pub mod WeighingLaws
