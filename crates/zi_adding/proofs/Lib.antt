pub mod AddingLemmas
pub mod HistoryLaws
