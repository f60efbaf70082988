pub mod Loops
pub mod Lengths
pub mod Again
pub mod Takes
pub mod Extends
pub mod Found
