pub mod PlainLemmas
pub mod WritableLemmas
pub mod HeldLemmas
