pub mod Bases
mod Turns
mod LineParts
mod Lines
pub mod Shapes
mod Fronts
mod Small
mod Back
mod FirstBack
mod Accepted
mod FirstAccepted
mod Whole
mod Examples
