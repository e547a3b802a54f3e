pub mod LiveNamed
pub mod BoundFile
pub mod LiveReading
pub mod LiveAnswers
