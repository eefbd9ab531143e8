pub mod Piles
pub mod Worked
