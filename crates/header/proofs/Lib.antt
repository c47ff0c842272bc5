pub mod SizeLaws
pub mod CheckLaws
pub mod AcceptedLaws
pub mod LocalLaws
