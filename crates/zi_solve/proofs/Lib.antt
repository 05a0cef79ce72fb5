pub mod GivenLaws
pub mod HeldLaws
pub mod AddLaws
pub mod ReplayLaws
pub mod FewLaws
pub mod SolveLaws
pub mod EndLaws
pub mod ChosenLaws
