pub mod Bounds
pub mod ComponentCounts
pub mod StepByStep
mod Examples
pub mod Folded
pub mod Readings
pub mod Listed
pub mod Sections
pub mod Parts
mod Texts
pub mod Placed
pub mod Concluded
