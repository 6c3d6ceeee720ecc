pub mod Lines
pub mod Products
