-- How a call ends, by what its words ask for and what came of the command.
use Rattle.std.proofs.Common.{◌≡◌, ◌⊎◌, ◌∙◌, sym, ap, refl, subst, inl, inr, ℕ, ◌≤◌, Bool, List, ◌++◌, length, take, Option, Err, arith}
use Rattle.std.proofs.lemmas.List.{length-map, length-take}
use Rattle.edge_io.specs.{Counts.raised, declared.counts.FileCounts.FileCounts}
use Rattle.cmd_words.specs.{declared.command.Command.Command, Forms.HasForm}
use Rattle.refusals.specs.declared.{refusal.Refusal.Refusal, status.Status.Status}
use Rattle.yse_commands.specs.{Ends.EndsAs, Ends.MayWrite, Expected.Asks, Expected.CallFor, Expected.CallOf}
use Rattle.yse_top.specs.Law.{IsProper}
use Rattle.call_steps.specs.{Outcome.Outcome, Outcome.Turns, Outcome.out_of_memory, Outcome.telling, Readings.Reading, Readings.AreReadings, Refused.refused_of}
use Rattle.edge_io.proofs.lemmas.WritingLemmas.{append_known-nil}
use Rattle.yse_commands.proofs.lemmas.VisitedLemmas.{refused_writes}
use Rattle.yse_top.proofs.OneLemmas.{no_ok, same_err}

-- the call of the command that the words ask for came to this, or they were refused
pub asked_came : (words : List (List ℕ)) (readings : List Reading) (o : Outcome) → CallFor words readings (Err o) → ((command : Command) × HasForm words command × CallOf command readings (Err o)) ⊎ Asks words (Err o) ⊎ (o ≡ out_of_memory)
asked_came words readings o (inl (taken, left, e, command, (none, inl has), next)) =
    let all : left ≡ readings = sym (e ∙ ap (λ t. t ++ left) none) in
    inl (command, has, subst (λ rs. CallOf command rs (Err o)) all next)
asked_came words readings o (inl (taken, left, e, command, (none, inr memory), next)) = absurd (no_ok command out_of_memory memory)
asked_came words readings o (inr (none, inl refused)) = inr (inl refused)
asked_came words readings o (inr (none, inr memory)) = inr (inr (same_err {X = Command} o out_of_memory memory))

module _ (names : Option (List ℕ → Bool)) (bytes : Option (List ℕ → List ℕ)) (old new : FileCounts) where
  -- no more files are begun than the command has
  pub few_begun : (files : List (List ℕ)) (Chain : List Reading → Outcome → Type 0) (readings : List Reading) (outcome : Outcome) → IsProper files Chain → AreReadings names bytes old new outcome.status readings → Chain readings outcome → new.starts ≤ raised old.starts (length files)
  few_begun files Chain readings outcome proper are expected =
      let begun = proper.begun readings outcome expected in
      let many : length readings ≤ length files = few (sym (length-map readings (λ reading. reading.file)) ∙ ap length begun) in
      omega (arith, are.starts, many)
    where
      few : {n : ℕ} → n ≡ length (take n files) → n ≤ length files
      few {n} e = omega (arith, e, length-take n files)

-- a refusal writes nothing, and its line is told
pub refused_ends : (told : Option Turns) (why : Refusal) (result : Status) (old new : Option (List ℕ)) (faults_old faults_new : ℕ) (TakesLine : List ℕ → Type 0) → result ≡ (refused_of why).status → new ≡ old → faults_new ≡ faults_old → TakesLine (refused_of why).line
    → EndsAs result (telling told (refused_of why)) old new faults_old faults_new TakesLine
refused_ends told why result old new faults_old faults_new TakesLine is same same_faults line = record {
  ends = inl (is, same ∙ sym (append_known-nil old), line);
  writes = λ fault. absurd (refused_writes why (subst MayWrite (sym fault ∙ is) tt));
  kept = omega (arith, same_faults);
}
