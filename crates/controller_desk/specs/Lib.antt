pub mod Calls
pub mod Contents
pub mod Readings
pub mod Turns
pub mod Ups
