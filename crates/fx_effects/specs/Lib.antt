pub mod Factors
pub mod Expressions
pub mod Lists
pub mod Models
