pub mod Steps
pub mod StepKeeps
