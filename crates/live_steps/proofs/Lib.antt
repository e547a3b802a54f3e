pub mod JournalLemmas
pub mod StepLemmas
pub mod RoomLemmas
