pub mod AddressLemmas
pub mod SettledLaws
pub mod WalkLaws
