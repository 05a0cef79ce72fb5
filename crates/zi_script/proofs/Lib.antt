pub mod NamingLaws
pub mod LineLaws
pub mod SaysLaws
pub mod TurnLaws
pub mod ScriptLaws
