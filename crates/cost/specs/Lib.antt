pub mod Kind
pub mod Kinds
pub mod Texts
pub mod Same
