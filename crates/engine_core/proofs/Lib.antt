mod Ascending
mod Evaluated
mod Members
mod Once
mod Rows
