mod Filing
pub mod Untouched
mod Examples
