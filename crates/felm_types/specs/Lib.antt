pub mod Binder
pub mod Scope
pub mod CoreTermOf
pub mod Judgement
pub mod Lift
pub mod Typed
pub mod CheckedProgram
pub mod FirstFault
