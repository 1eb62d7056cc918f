pub mod FloatLaws
mod UploadLaws
