pub mod Ends
pub mod Texts
pub mod Tables
pub mod Codes
pub mod Counts
