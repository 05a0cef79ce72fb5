pub mod MarkLaws
pub mod RestLaws
pub mod PartLaws
pub mod GroundLaws
pub mod CoreLaws
pub mod ConflictLaws
