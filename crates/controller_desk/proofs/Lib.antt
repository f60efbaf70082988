pub mod Acting
pub mod Extending
pub mod Numbers
pub mod Seen
pub mod Short
pub mod Taking
