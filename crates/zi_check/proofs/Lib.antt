pub mod TakeLaws
pub mod MeetLaws
pub mod ValidLaws
pub mod ExcludeLaws
