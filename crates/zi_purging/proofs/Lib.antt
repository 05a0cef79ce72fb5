pub mod RunLemmas
pub mod PurgedLemmas
