pub mod Answer
pub mod Contents
pub mod Evaluation
pub mod Faults
pub mod Headers
pub mod Request
pub mod State
