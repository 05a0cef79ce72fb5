pub mod FetchLaws
pub mod WebLaws
pub mod FetchableLaws
pub mod DownloadLaws
