pub mod Asking
pub mod Books
pub mod Outcomes
pub mod Standing
pub mod StepClaims
pub mod ValidSteps
