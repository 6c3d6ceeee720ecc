pub mod Asking
pub mod Booked
pub mod Answered
pub mod Valid
mod Shapes
pub mod Left
pub mod StepSettings
mod NextResolution
mod FullBlocks
pub mod Best
mod Examples
mod Refutations
