pub mod Counter
pub mod StepLaws
pub mod CounterLaws
pub mod Written
pub mod PassLaws
pub mod UnpackLaws
