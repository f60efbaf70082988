pub mod Items
pub mod Lines
pub mod Reading
pub mod Simple
pub mod Standing
pub mod Values
