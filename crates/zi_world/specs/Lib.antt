pub mod Shelves
pub mod Asking
pub mod Files
pub mod World
pub mod Meets
pub mod StoreRead
pub mod Surroundings
pub mod Places
