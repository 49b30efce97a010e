mod KeptLemmas
mod LaneKept
mod LaneMemories
mod MemoryLemmas
