pub mod Promotion
