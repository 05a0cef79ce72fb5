pub mod FactLaws
pub mod TellLaws
pub mod LookLaws
pub mod LineLaws
