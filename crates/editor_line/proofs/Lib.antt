mod Search
mod Picking
mod Calling
