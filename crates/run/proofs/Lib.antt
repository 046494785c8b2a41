pub mod Pushes
pub mod Bridge
pub mod Holding
pub mod Opened
pub mod Steps
pub mod Answering
pub mod Recording
