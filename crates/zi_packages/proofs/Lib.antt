pub mod CutLaws
pub mod ItemLaws
pub mod RowLaws
pub mod PickLaws
pub mod TableLaws
pub mod TextLaws
