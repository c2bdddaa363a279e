pub mod NodeReads
pub mod FormReads
pub mod StepReads
pub mod LeafReads
