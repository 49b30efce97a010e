mod FrameLemmas
mod LineLemmas
mod RunLemmas
