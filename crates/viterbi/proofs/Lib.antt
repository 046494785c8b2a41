pub mod Survivor
pub mod Picking
pub mod Lines
pub mod Loops
