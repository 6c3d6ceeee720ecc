pub mod Packed
pub mod Cutting
pub mod Digits
pub mod LevelCounts
pub mod Pairing
pub mod Supports
pub mod WordsOn
mod Examples
