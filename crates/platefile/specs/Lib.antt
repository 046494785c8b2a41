pub mod Drawns
pub mod Files
pub mod Reading
pub mod Opening
pub mod Texts
pub mod Pieces
