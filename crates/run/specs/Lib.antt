pub mod Account
pub mod Rivals
pub mod Promise
pub mod Agreement
pub mod Numbers
