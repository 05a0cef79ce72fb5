pub mod StoreList
pub mod ManifestCommand
pub mod StoreVerify
pub mod Gathering
pub mod Adding
pub mod StorePurge
