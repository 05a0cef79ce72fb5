pub mod AskingLemmas
pub mod FilesLemmas
pub mod ShelvesLemmas
pub mod CallLemmas
pub mod PlacesLemmas
pub mod StandLemmas
pub mod FirstLemmas
