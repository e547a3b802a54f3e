pub mod JournalLemmas
pub mod SaveLemmas
pub mod ReplyLemmas
pub mod MetLemmas
pub mod AudioLemmas
pub mod KnownLemmas
pub mod WholeLemmas
