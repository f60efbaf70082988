pub mod Stream
pub mod Grammar
pub mod Greeting
pub mod Command
pub mod Written
