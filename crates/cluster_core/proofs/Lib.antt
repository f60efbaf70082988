pub mod Goes
pub mod Growing
pub mod Lives
pub mod Plans
pub mod Sizes
