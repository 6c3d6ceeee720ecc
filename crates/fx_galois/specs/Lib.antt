pub use Rattle.fx_designs.specs.Galois
pub mod TableEntries
