pub mod Rounds
pub mod Enclosures
pub mod ReadFiles
pub mod Printed
