pub mod Memory
pub mod Whole
pub mod InMemory
pub mod Picked
pub mod Comers
pub mod Crashing
pub mod Fillings
