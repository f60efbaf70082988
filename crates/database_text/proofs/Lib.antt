pub mod Fronts
mod Giving
mod Printing
mod Places
mod Standing
mod Thinned
pub mod Differences
mod Feeding
pub mod Histories
pub mod Holding
pub mod Narrowing
pub mod Noting
pub mod Passing
pub mod WrittenFronts
pub mod Found
pub mod Takes
