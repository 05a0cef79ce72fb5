pub mod FindLaws
pub mod SuitLaws
pub mod ReasonLaws
pub mod BlockLaws
pub mod OneLaws
pub mod KnownLaws
pub mod TakeLaws
pub mod AnswerLaws
