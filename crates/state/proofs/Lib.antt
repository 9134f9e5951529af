-- Laws that belong to no one function.
pub mod AnswerWords
pub mod Asking
pub mod Holding
pub mod Storing
