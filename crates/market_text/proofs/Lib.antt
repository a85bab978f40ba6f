pub mod Lists
pub mod ReadingLemmas
pub mod StepLemmas
pub mod TextLemmas
