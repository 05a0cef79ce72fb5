pub mod ArchLemmas
