mod Stepping
mod Shapes
pub mod Ruled
mod Examples
