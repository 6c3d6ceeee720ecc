mod Examples
pub mod Shuffles
pub mod Joining
pub mod Fields
pub mod Kept
pub mod Words
pub mod Totals
pub mod Lists
pub mod Fitting
pub mod Handing
pub mod ProductRows
pub mod Parts
pub mod Wholes
pub mod Coding
pub mod Repeating
mod Designs
