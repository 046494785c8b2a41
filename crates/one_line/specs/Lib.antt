pub mod Drawing
pub mod Pixels
pub mod Filled
pub mod Lines
