pub mod Leaves
pub mod GivenKinds
pub mod Mixed
pub mod Places
pub mod GivenEach
pub mod BySource
pub mod SourceLaw
pub mod NewInputs
