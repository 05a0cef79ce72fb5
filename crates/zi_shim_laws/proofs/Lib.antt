mod NameLaws
mod PartLaws
mod FeedLaws
mod LoadedLaws
mod SelectionLaws
mod ProgramLaws
