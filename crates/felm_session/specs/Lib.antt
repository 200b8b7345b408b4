pub mod SessionValue
pub mod Inside
pub mod Answers
pub mod Concluding
pub mod Laws
