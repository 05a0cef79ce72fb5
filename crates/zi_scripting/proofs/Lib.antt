pub mod ScriptingLaws
pub mod KeptLaws
pub mod PlanLaws
