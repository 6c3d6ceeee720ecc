pub mod Entries
pub mod Multiples
pub mod Forbidden
pub mod Cancelling
pub mod Independent
pub mod Terms
pub mod BlockValues
pub mod Balance
pub mod Allowed
pub mod VectorTests
pub mod ForbiddenTests
pub mod MeetsTests
pub mod ConstantTests
pub mod Patterns
pub mod Numbers
pub mod Canonical
pub mod NoWorse
pub mod Kept
pub mod Changed
pub mod Scaled
pub mod Reordered
pub mod Raised
pub mod NoDesign
pub mod Halves
pub mod Weights
pub mod Effects
pub mod Extensions
pub mod PatternOrder
pub mod LeastPattern
pub mod Prefix
mod Examples
mod Limits
pub mod AllowedFronts
pub mod NormalWords
pub mod ShortWords
pub mod BlockCounts
pub mod BlockedResolutions
mod ClaimExamples
