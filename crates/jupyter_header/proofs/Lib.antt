pub mod Walk
pub mod Short
pub mod Commas
pub mod Onces
pub mod Borrowed
pub mod CommasMore
