pub mod Walks
pub mod Places
pub mod Targets
pub mod Written
