pub mod Mains
pub mod Numbers
pub mod Joined
pub mod Covered
pub mod Apart
pub mod Within
pub mod Placed
mod Examples
