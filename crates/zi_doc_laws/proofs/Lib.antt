pub mod CarriedLaws
mod PastLaws
pub mod FineLaws
mod TagLaws
mod KeepLaws
mod TreeLaws
