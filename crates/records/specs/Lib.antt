pub mod Letters
pub mod Faults
pub mod Records
pub mod Cutting
pub mod Headings
pub mod Texts
