pub mod FirstLaws
pub mod ListingLaws
