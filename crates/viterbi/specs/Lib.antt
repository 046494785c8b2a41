pub mod Ways
pub mod Columns
pub mod Totals
pub mod Theorems
