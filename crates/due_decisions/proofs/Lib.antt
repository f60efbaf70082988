pub mod LaneSteps
pub mod Lists
pub mod OpenRooms
pub mod OpenTasks
pub mod Stand
pub mod Whole
