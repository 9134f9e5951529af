pub mod Answers
pub mod Noted
pub mod Record
pub mod Visits
