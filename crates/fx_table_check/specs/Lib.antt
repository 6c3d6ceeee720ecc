pub mod Counts
pub mod Effects
pub mod Goals
pub mod Prefixes
pub mod Checking
pub mod Keys
pub mod Moves
pub mod Least
