pub mod Commands
pub mod Links
pub mod Serving
