pub mod Cuts
pub mod Numbers
pub mod Faults
pub mod Rows
pub mod Once
pub mod Requests
pub mod Held
mod Formed
mod Pigeons
mod Submitted
