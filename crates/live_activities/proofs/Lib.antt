pub mod OscLemmas
