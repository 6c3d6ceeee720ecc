mod Examples
mod BlockSums
mod BlockEntries
mod BlockWordExamples
mod Confounded
mod Counted
mod Members
mod Numbered
mod Once
mod Same
mod Alone
mod ClassNumbers
mod Multiples
mod Lengths
mod Walk
mod Heads
mod Heavier
mod Subjects
mod RuleUses
mod Exact
mod Rising
pub mod RuleLines
pub mod Folds
