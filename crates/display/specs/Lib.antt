pub mod Colours
pub mod Machine
pub mod Displays
pub mod Texts
