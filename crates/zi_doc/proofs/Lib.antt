pub mod TextLemmas
pub mod Stacks
pub mod Turns
pub mod Roots
pub mod Law
