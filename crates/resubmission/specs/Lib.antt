pub mod Aborting
pub mod Plans
pub mod Purging
pub mod Listed
pub mod Lists
pub mod Standings
pub mod Wheres
