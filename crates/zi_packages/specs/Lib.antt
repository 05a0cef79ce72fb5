pub mod Lines
pub mod Cutting
pub mod Table
pub mod Natives
pub mod Picks
pub mod Laws
