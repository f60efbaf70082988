mod Digits
mod Valued
