pub mod HearingLemmas
pub mod GoingLemmas
pub mod PlayingLemmas
