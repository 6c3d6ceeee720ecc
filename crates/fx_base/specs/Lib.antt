pub mod Acts
pub mod Faults
pub mod FileBounds
pub mod Members
pub mod Memory
pub mod Pieces
pub mod Reading
pub mod Writing
