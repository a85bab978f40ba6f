pub mod Answering
pub mod Completion
pub mod JournalTexts
pub mod WritingLemmas
