pub mod Words
pub mod LiveWords
pub mod Asking
pub mod Answering
