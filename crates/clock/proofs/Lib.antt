pub mod FitLaws
pub mod TickLaws
pub mod AnswerLaws
pub mod AccessLaws
pub mod KeptLaws
