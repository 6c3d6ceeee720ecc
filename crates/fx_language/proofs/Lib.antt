mod Derivatives
mod Solid
pub mod SameSymbol
pub mod Uncoded
mod Ends
mod StepEnds
pub mod Sentences
pub mod Prefixes
mod SameTexts
mod Table
pub mod Rules
pub mod Named
pub mod Codes
pub mod Unknown
pub mod Lacking
pub mod LeftOut
pub mod Places
mod Keys
mod Steps
mod SymbolSets
pub mod Pass
mod Examples
pub mod FirstRefusal
