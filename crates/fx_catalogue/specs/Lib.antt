pub mod Lines
pub mod Listing
pub mod Catalogues
pub mod Laws
