pub mod FileCounts
