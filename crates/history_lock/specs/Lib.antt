pub mod History
pub mod Log
pub mod Loans
pub mod Rule
pub mod Slots
pub mod Names
pub mod Turn
