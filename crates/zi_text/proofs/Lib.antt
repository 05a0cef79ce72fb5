pub mod ListLaws
pub mod NumeralLaws
pub mod PieceLaws
pub mod Searched
