pub mod Placed
pub mod Chain
pub mod Launches
pub mod Plans
pub mod Shims
pub mod Steps
pub mod Laws
