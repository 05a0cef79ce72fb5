pub mod KeptLemmas
pub mod LaunchLemmas
pub mod EndLemmas
pub mod ChoosingEnds
pub mod StoringEnds
pub mod FetchingEnds
pub mod LaunchingEnds
pub mod ScriptingEnds
pub mod ShowingEnds
pub mod WorkEnds
pub mod RunLemmas
pub mod CauseLaws
mod DueEnds
