pub mod Taken
pub mod Rests
pub mod Leads
pub mod Boxes
pub mod Standing
pub mod Calls
