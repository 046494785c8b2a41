pub mod Nearest
pub mod Costs
pub mod Texts
pub mod Cheapest
