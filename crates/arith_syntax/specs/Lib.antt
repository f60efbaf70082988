pub mod Apart
pub mod Grammar
pub mod Lexical
pub mod Printing
pub mod Reading
pub mod Tree
pub mod Written
