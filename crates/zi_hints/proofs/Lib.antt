pub mod SayingLemmas
pub mod TellingLemmas
