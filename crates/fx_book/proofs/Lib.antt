pub mod Splits
mod Numbers
pub mod Lines
mod Ranges
mod Joins
mod Streams
pub mod Listed
mod Askable
mod Placing
pub mod Back
mod Stops
pub mod Books
pub mod Whole
mod Examples
pub mod Numerals
pub mod Texts
pub mod Accepted
pub mod ValidTexts
pub mod QuestionBooks
