pub mod Fuse
pub mod Litter
pub mod Misses
pub mod Same
