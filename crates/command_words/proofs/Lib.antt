mod Addresses
mod Numbers
mod Parses
mod Rules
mod Steps
mod Walk
mod Words
