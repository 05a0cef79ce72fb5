pub mod CommandLemmas
pub mod EntryLemmas
pub mod FeedsLemmas
pub mod FileNameLaws
pub mod LineLemmas
pub mod ReadLemmas
