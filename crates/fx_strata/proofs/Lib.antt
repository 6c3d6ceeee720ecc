pub mod Lists
pub mod Change
pub mod Exchanges
mod Entries
pub mod Totals
mod Free
mod Stages
pub mod Moved
mod Runs
mod Unclear
mod Raised
mod Reduced
mod Short
mod Keeping
mod Earlier
pub mod Least
mod Rests
mod Follows
mod Tested
mod Clearer
pub mod Live
mod Alone
mod Alike
pub mod Isomorphic
pub mod First
pub mod Floored
pub mod Good
pub mod Spreads
pub mod Fewer
mod Ordinary
mod Once
mod Orders
mod Keys
mod Examples
mod SpreadUses
