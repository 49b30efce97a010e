mod Beginnings
mod CoverLemmas
mod LineLemmas
mod MarkLemmas
mod WatchLemmas
