pub mod Walks
pub mod Lines
pub mod Figures
pub mod Listing
