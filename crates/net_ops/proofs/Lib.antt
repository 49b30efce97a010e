mod AnswerLemmas
mod AssignLemmas
mod BaseLemmas
mod LaneLemmas
pub mod lemmas
mod Memories
pub mod OpLemmas
mod RamLemmas
pub mod Rows
mod ScheduleLemmas
mod SequenceLemmas
mod StartLemmas
pub mod Steps
mod TurnLemmas
