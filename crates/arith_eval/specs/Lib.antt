pub mod Machine
pub mod Names
pub mod Value
