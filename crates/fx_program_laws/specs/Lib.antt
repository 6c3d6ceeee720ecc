pub mod BookClaims
pub mod Endings
pub mod GivenDesigns
pub mod PrintedRules
pub mod ReadBack
