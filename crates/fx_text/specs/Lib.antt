pub mod Written
pub mod Numbers
pub mod Phrases
pub mod Statements
pub mod Sentences
pub mod Names
pub mod Ranges
pub mod Refusals
