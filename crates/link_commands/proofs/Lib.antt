pub mod AskingGoing
pub mod AskingPieces
pub mod Ends
pub mod FirstAnswer
pub mod WorkingGoing
pub mod WorkingPieces
