pub mod Found
pub mod Laid
pub mod Limited
pub mod Members
pub mod Shown
