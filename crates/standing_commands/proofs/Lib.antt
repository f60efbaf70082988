mod Memory
mod Ranges
mod Saying
mod Usage
