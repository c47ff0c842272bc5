pub mod ReaderLaws
pub mod Grammar
