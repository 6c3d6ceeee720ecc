pub mod Cuts
pub mod Lacking
pub mod Sentences
pub mod Digits
pub mod Distinct
pub mod Wholes
pub mod Chains
pub mod Numbered
pub mod RangeParts
pub mod Placed
pub mod Stops
pub mod ByLexemes
mod Examples
