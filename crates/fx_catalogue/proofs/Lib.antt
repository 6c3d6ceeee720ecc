mod Answered
pub mod Fewer
pub mod Claimed
mod Examples
