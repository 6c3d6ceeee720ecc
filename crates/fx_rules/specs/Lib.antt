pub mod Building
pub mod Naming
pub mod Reading
pub mod Stepped
pub mod Laws
pub mod Parts
pub mod Problems
pub mod TableLines
