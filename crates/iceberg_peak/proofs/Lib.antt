pub mod PeakLemmas
