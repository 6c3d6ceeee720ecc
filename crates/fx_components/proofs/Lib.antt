pub mod Products
pub mod Enumerating
mod Examples
