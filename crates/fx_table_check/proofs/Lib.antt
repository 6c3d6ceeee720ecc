pub mod Cosets
pub mod Counts
pub mod Prefixes
pub mod Values
pub mod Turns
pub mod Ranges
pub mod Greatest
pub mod Moves
pub mod UpToTwo
pub mod Multiples
pub mod Divided
pub mod Good
pub mod Comparing
pub mod LeastOf
mod Examples
