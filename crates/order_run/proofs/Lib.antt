mod CoreLemmas
mod EndLemmas
mod RoundLemmas
mod RowLemmas
mod CorePortLemmas
mod StartLemmas
mod StepLemmas
