pub mod FitLaws
pub mod SecondLaws
pub mod AccessLaws
pub mod KeptLaws
