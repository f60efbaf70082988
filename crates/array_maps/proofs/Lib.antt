pub mod Blocked
pub mod Decimals
pub mod Fronts
pub mod Lexed
pub mod Placing
pub mod Running
pub mod Scattering
pub mod Setting
