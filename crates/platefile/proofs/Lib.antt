pub mod Closing
pub mod Outputs
pub mod Nexts
pub mod Readers
pub mod Displays
pub mod Followups
