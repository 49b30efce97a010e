-- Lemmas on words.
mod TestLemmas
mod AppLemmas
mod WalkLemmas
mod RowLemmas
mod ParseLemmas
mod MatchLemmas
mod LookLemmas
mod ArgumentLemmas
mod AskLemmas
mod FormLemmas
mod RangeLemmas
