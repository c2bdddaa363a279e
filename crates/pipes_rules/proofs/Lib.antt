pub mod StepsSound
pub mod Walking
pub mod Applying
pub mod TableLaws
pub mod StepByStep
