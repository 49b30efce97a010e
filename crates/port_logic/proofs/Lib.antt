mod OpLemmas
mod TaskLemmas
