-- The text of a file.
use Rattle.std.specs.Prelude.{◌≡◌, ℕ, List, [], ◌∷◌, Bool, Option, Some, None, Result, Ok, Err}
use Rattle.edge_io.specs.declared.counts.FileCounts.{FileCounts}
use Rattle.refusals.specs.declared.refusal.Refusal.{Refusal}
use Rattle.call_steps.specs.{Checks.text_of, Checks.read_fault, Readings.AreReadings, Refused.Satisfies, Refused.answer, Refused.refused_of, Steps.status_at}

-- a call answers the text of a file whose bytes these are
abbrev pub AnswersText : List ℕ → Option (List ℕ) → Result (List ℕ) Refusal → Type 0
AnswersText file None (Ok text) = ⊥
AnswersText file None (Err why) = refused_of why ≡ read_fault file
AnswersText file (Some bytes) result = Satisfies result (λ answer. text_of file bytes ≡ answer)

module _ (names : Option (List ℕ → Bool)) (bytes : Option (List ℕ → List ℕ)) (old new : FileCounts) where
  -- a call began one file, and answers its text
  pub record GivesText (file : List ℕ) (result : Result (List ℕ) Refusal) : Type 0 where
    pub gave : Option (List ℕ)
    pub reading : AreReadings names bytes old new (status_at (answer result)) (record { file = file; bytes = gave } ∷ [])
    pub text : AnswersText file gave result
