pub mod Sketch
pub mod Manifest
pub mod Walk
pub mod AtPlace
pub mod Listing
pub mod Reading
