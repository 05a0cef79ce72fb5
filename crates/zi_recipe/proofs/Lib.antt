pub mod LevelLemmas
pub mod AskedLemmas
pub mod FetchLemmas
pub mod StepLemmas
pub mod MadeLemmas
pub mod MakingLemmas
