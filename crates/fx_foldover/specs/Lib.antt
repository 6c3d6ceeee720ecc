pub mod Foldovers
pub mod Counts
pub mod Laws
