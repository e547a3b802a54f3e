pub mod EndLemmas
pub mod HolderLemmas
pub mod BehindLemmas
pub mod CountLemmas
pub mod LiveLemmas
