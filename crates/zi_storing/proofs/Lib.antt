pub mod StoreLemmas
pub mod HeldLemmas
pub mod GatheringLemmas
pub mod AddingLemmas
pub mod PurgingLemmas
pub mod RightLemmas
