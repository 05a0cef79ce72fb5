pub mod WalkLaws
pub mod PieceLaws
pub mod OnceLaws
pub mod OneLaws
pub mod ShowLaws
