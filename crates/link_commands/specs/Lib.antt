pub mod Actions
pub mod Links
pub mod EngineEnds
pub mod ClientEnds
pub mod Working
pub mod Asking
