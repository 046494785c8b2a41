pub mod Faults
pub mod Lines
pub mod Checks
pub mod Theorems
pub mod Texts
