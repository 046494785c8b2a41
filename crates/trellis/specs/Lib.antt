pub mod Stages
pub mod Cells
pub mod Bids
pub mod Calls
