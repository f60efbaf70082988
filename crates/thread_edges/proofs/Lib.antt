pub mod Firsts
pub mod Moments
