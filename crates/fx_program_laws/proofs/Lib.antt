mod Examples
pub mod ValidBooks
mod BookLengths
mod GoodBooks
mod CataloguedBooks
mod Booked
mod Listed
mod Least
mod First
mod Messages
pub mod MadePieces
pub mod MadeSymbols
pub mod MadeSteps
pub mod NameSpellings
pub mod StepCounts
pub mod PlannedSteps
pub mod FileNames
mod PrintedRules
mod GivenDesigns
mod ReadBack
mod ReadBackExamples
mod Past
mod BookKinds
mod LineUses
