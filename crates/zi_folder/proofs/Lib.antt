pub mod FolderLemmas
pub mod OpenedLemmas
