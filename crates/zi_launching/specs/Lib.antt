pub mod Folders
pub mod Placing
pub mod Verifying
pub mod Shims
pub mod Launching
pub mod Run
pub mod Opening
