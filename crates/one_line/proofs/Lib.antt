pub mod Passing
pub mod Filling
pub mod Starting
pub mod Targets
pub mod Pixels
mod Whole
