pub mod DownloadLaws
mod StreamLaws
mod ConfigLaws
