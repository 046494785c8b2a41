pub mod Heads
pub mod Pieces
pub mod Pinning
pub mod Wording
