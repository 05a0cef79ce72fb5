pub mod TopsLemmas
pub mod ReadingLemmas
pub mod FillingLemmas
