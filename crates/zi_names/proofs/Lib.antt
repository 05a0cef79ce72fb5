pub mod Colons
pub mod PlacesLemmas
pub mod DeclaredLemmas
pub mod Twice
pub mod Expanded
pub mod LevelsLemmas
