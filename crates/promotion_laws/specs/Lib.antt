pub mod Promoted
