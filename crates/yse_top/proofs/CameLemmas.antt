-- What the outcome that a call came to says of its status, its output, its gates and the counts.
use Rattle.std.proofs.Common.{◌≡◌, ◌≢◌, ◌∙◌, ◌↔◌, ◌⊎◌, sym, ap, subst, inl, inr, ℕ, List, Option, Some, None, Err, take}
use Rattle.std.specs.Io.KnownBytes.{append_known}
use Rattle.crew_run.specs.declared.gate.Gate as gate
use Rattle.edge_io.specs.{Counts.Rose, Writing.TakesLine}
use Rattle.edge_io.specs.declared.files.Files as files
use Rattle.cmd_words.specs.{Asked.asked, declared.command.Command.Command}
use Rattle.cmd_words.specs.declared.command.Command.TheVariants as command
use Rattle.refusals.specs.{declared.status.Status.Status, Lines.write_fault_line}
use Rattle.refusals.specs.declared.status.Status.TheVariants as status
use Rattle.yse_top.specs.{code.Came.CameTo, Law.IsProper, Law.TellsWords}
use Rattle.yse_commands.specs.Ends.{AreToldBy, EndsAs, IsDoneOrMemory, KeepsTaken, MayWrite}
use Rattle.yse_commands.specs.{Expected.CallFor, Expected.CallOf, Expected.Expected, Traced.IsOutputOfFiles, Visited.AreTold, Visited.AreTurnsOf, Visited.TellsGates}
use Rattle.call_steps.specs.{Outcome.Outcome, Outcome.Turns, Readings.Reading}
use Rattle.yse_commands.proofs.lemmas.{ReachLemmas.AreAsTold, TracedLemmas.command_told, TracedLemmas.command_traced, VisitedLemmas.whole_writes}
use Rattle.yse_top.proofs.CallLemmas.{asked_came}
use Rattle.yse_top.proofs.EndLemmas.{absent_kept, completes, fault_rose}

-- what may be written is no such status
writes_other : (s other : Status) → (MayWrite other → ⊥) → MayWrite s → s ≢ other
writes_other s other never may is = never (subst MayWrite is may)

no_fault : status.WriteFault ≡ status.ReadFault → ⊥
no_fault e = cc

-- the chain of the command that the words ask for came to this, or a refusal that tells no gate anything
abbrev Chained : List (List ℕ) → List Reading → Outcome → Type 0
Chained words readings o = ((command : Command) × (asked words ≡ Some command) × CallOf command readings (Err o)) ⊎ ((o.told ≡ None) × (MayWrite o.status → ⊥))

chain_came : TellsWords → (words : List (List ℕ)) (readings : List Reading) (o : Outcome) → CallFor words readings (Err o) → Chained words readings o
chain_came laws words readings o came = elim (asked_came words readings o came) [
  | inl (command, has, next) ↦ inl (command, (laws.forms words command).1 has, next)
  | inr (inl refused) ↦ inr (ap (λ (p : Outcome). p.told) refused.1, subst MayWrite (ap (λ (p : Outcome). p.status) refused.1))
  | inr (inr memory) ↦ inr (ap (λ (p : Outcome). p.told) memory, subst MayWrite (ap (λ (p : Outcome). p.status) memory))
]

-- ---- the turns that a call told of

module _ (bytes : Option (List ℕ → List ℕ)) (told : Option Turns) where
  -- of a refusal there are none
  untold : (s : Status) → (MayWrite s → ⊥) → told ≡ None → (command : Option Command) → AreTurnsOf bytes s command told
  untold s never none (Some (command.Run words)) = record { written = λ may. absurd (never may); left = λ other. none }
  untold s never none (Some (command.Exec words image)) = record { written = λ may. absurd (never may); left = λ other. none }
  untold s never none (Some (command.Pack words)) = record { written = λ may. absurd (never may); left = λ other. none }
  untold s never none (Some (command.Large gates cycles workers)) = record { written = λ may. absurd (never may); left = λ other. inl none }
  untold s never none _ = none

  module _ (one other : Status) (to : MayWrite other → MayWrite one) (back : MayWrite one → MayWrite other) where
    told_alike : {Written Left : Type 0} → AreTold one Written Left → AreTold other Written Left
    told_alike told = record { written = λ may. told.written (to may); left = λ never. told.left (λ may. never (back may)) }

    turns_alike : (command : Option Command) → AreTurnsOf bytes one command told → AreTurnsOf bytes other command told
    turns_alike (Some (command.Run words)) turns = told_alike turns
    turns_alike (Some (command.Exec words image)) turns = told_alike turns
    turns_alike (Some (command.Pack words)) turns = told_alike turns
    turns_alike (Some (command.Large gates cycles workers)) turns = told_alike turns
    turns_alike _ turns = turns

module _ {F G : Type 0} (p : gate.Ghosts G) (gates gates' : List (Option G)) (tells : files.Ghosts F) (store store' : F) (words : List (List ℕ)) (result : Status) (old new : Option (List ℕ)) (faults_old faults_new : ℕ) (TakesLine : List ℕ → Type 0) where
  abbrev Came : Type 0
  Came = CameTo p gates gates' tells store store' (CallFor words) result old new faults_old faults_new TakesLine

  module _ (laws : TellsWords) (came : Came) where
    read : AreAsTold (tells.bytes store) came.follows.readings
    read place reading at = (came.follows.are.each place reading at).whole

    -- the output is what the files say
    pub trace_came : result ≡ status.Done → (output : List ℕ) × (new ≡ append_known old output) × IsOutputOfFiles (tells.bytes store) output (asked words)
    trace_came is = elim came.ends.ends [
      | inl told ↦ (came.outcome.output, told.1, by (chain_came laws words came.follows.readings came.outcome came.follows.step) (sym told.0 ∙ is))
      | inr cut ↦ absurd (writes_no_fault (sym cut.0 ∙ is))
    ]
      where
        writes_no_fault : status.WriteFault ≡ status.Done → ⊥
        writes_no_fault e = cc

        by : Chained words came.follows.readings came.outcome → came.outcome.status ≡ status.Done → IsOutputOfFiles (tells.bytes store) came.outcome.output (asked words)
        by (inl (command, asks, chain)) well =
            subst (IsOutputOfFiles (tells.bytes store) came.outcome.output) (sym asks) (command_traced (tells.bytes store) came.outcome came.follows.readings read command well chain)
        by (inr refused) well = absurd (refused.1 (subst MayWrite (sym well) tt))

    -- the gates were told of the turns that the files say
    pub visits_came : TellsGates p (tells.bytes store) gates gates' result (asked words)
    visits_came = record {
      told = came.outcome.told;
      are = turns_alike (tells.bytes store) came.outcome.told came.outcome.status result to back (asked words) (by (chain_came laws words came.follows.readings came.outcome came.follows.step));
      visits = came.told;
    }
      where
        to : MayWrite result → MayWrite came.outcome.status
        to may = elim came.ends.ends [
          | inl told ↦ subst MayWrite told.0 may
          | inr cut ↦ whole_writes came.outcome.status (came.ends.writes cut.0)
        ]

        back : MayWrite came.outcome.status → MayWrite result
        back may = elim came.ends.ends [
          | inl told ↦ subst MayWrite (sym told.0) may
          | inr cut ↦ subst MayWrite (sym cut.0) tt
        ]

        by : Chained words came.follows.readings came.outcome → AreTurnsOf (tells.bytes store) came.outcome.status (asked words) came.outcome.told
        by (inl (command, asks, chain)) = subst (λ (c : Option Command). AreTurnsOf (tells.bytes store) came.outcome.status c came.outcome.told) (sym asks) (command_told (tells.bytes store) came.outcome came.follows.readings read command chain)
        by (inr refused) = untold (tells.bytes store) came.outcome.told came.outcome.status refused.1 refused.0 (asked words)

  refused_words : TellsWords → (came : Came) → came.outcome.status ≢ status.Memory → (came.outcome.status ≡ status.Words) ↔ (asked words ≡ None)
  unfolding Expected
  refused_words laws came = laws.refused words came.follows.readings came.outcome came.follows.step

  -- words are refused exactly where they are of no form
  pub words_came : TellsWords → Came → result ≢ status.Memory → (result ≡ status.Words) ↔ (asked words ≡ None)
  words_came laws came other = elim came.ends.ends [
    | inl told ↦ subst (λ s. (s ≡ status.Words) ↔ (asked words ≡ None)) (sym told.0) (refused_words laws came (λ is. other (told.0 ∙ is)))
    | inr cut ↦ by_cut cut.0
  ]
    where
      by_cut : result ≡ status.WriteFault → (result ≡ status.Words) ↔ (asked words ≡ None)
      by_cut is =
          let may = whole_writes came.outcome.status (came.ends.writes is) in
          let refused = refused_words laws came (writes_other came.outcome.status status.Memory (λ m. m) may) in
          (λ w. absurd (writes_other result status.Words (λ m. m) (subst MayWrite (sym is) tt) w), λ none. absurd (writes_other came.outcome.status status.Words (λ m. m) may (refused.1 none)))

  module _ (files : List (List ℕ)) (proper : IsProper files (λ readings o. CallFor words readings (Err o))) where
    pub fault_came : Came → result ≡ status.ReadFault → Rose (tells.counts store).faults (tells.counts store').faults
    fault_came came is = elim came.ends.ends [
      | inl told ↦ fault_rose (tells.names store) (tells.bytes store) (tells.counts store) (tells.counts store') files (λ readings o. CallFor words readings (Err o)) proper came.follows.readings came.outcome came.follows.are came.follows.step (sym told.0 ∙ is)
      | inr cut ↦ absurd (no_fault (sym cut.0 ∙ is))
    ]

    pub write_came : Came → result ≡ status.WriteFault → Rose faults_old faults_new
    write_came came is = elim came.ends.ends [
      | inl told ↦ absurd ((proper.cause came.follows.readings came.outcome came.follows.step).none_written (sym told.0 ∙ is))
      | inr cut ↦ cut.2
    ]

    pub absent_came : Came → result ≢ status.ReadFault → (tells.counts store').absent_starts ≡ (tells.counts store).absent_starts
    absent_came came other = elim came.ends.ends [
      | inl told ↦ absent_kept (tells.names store) (tells.bytes store) (tells.counts store) (tells.counts store') files (λ readings o. CallFor words readings (Err o)) proper came.follows.readings came.outcome came.follows.are came.follows.step (λ is. other (told.0 ∙ is))
      | inr cut ↦ absent_kept (tells.names store) (tells.bytes store) (tells.counts store) (tells.counts store') files (λ readings o. CallFor words readings (Err o)) proper came.follows.readings came.outcome came.follows.are came.follows.step (writes_other came.outcome.status status.ReadFault (λ m. m) (whole_writes came.outcome.status (came.ends.writes cut.0)))
    ]

    pub completes_came : Came → (readings : List Reading) (outcome : Outcome) → CallFor words readings (Err outcome) → outcome.status ≡ status.Done → AreToldBy (tells.names store) (tells.bytes store) readings → (Rose (tells.counts store).faults (tells.counts store').faults → ⊥) → (Rose faults_old faults_new → ⊥) → IsDoneOrMemory result
    completes_came came readings outcome expected well told kept written = elim came.ends.ends [
      | inl as_told ↦ subst IsDoneOrMemory (sym as_told.0) (completes (tells.names store) (tells.bytes store) (tells.counts store) (tells.counts store') files (λ readings o. CallFor words readings (Err o)) proper came.follows.readings came.outcome came.follows.are came.follows.step readings outcome expected well told kept)
      | inr cut ↦ absurd (written cut.2)
    ]

-- what a sink had taken it has, however the call ended
module _ (result : Status) (outcome : Outcome) (old new : Option (List ℕ)) (faults_old faults_new : ℕ) where
  pub output_kept : {TakesLine : List ℕ → Type 0} → EndsAs result outcome old new faults_old faults_new TakesLine → KeepsTaken old new faults_old faults_new
  output_kept ended = record {
    taken = elim ended.ends [
      | inl whole ↦ (outcome.output, whole.1)
      | inr cut ↦ (take cut.1.count outcome.output, cut.1.taken)
    ];
    faults = ended.kept;
  }

  line_taken : (told told' : Option (List ℕ)) (faults faults' : ℕ) (line : List ℕ) → TakesLine told told' faults faults' line → KeepsTaken told told' faults faults'
  line_taken told told' faults faults' line takes = record { taken = (take takes.front.0 line, takes.front.1); faults = takes.kept }

  pub line_kept : (told told' : Option (List ℕ)) (faults faults' : ℕ) → EndsAs result outcome old new faults_old faults_new (TakesLine told told' faults faults') → KeepsTaken told told' faults faults'
  line_kept told told' faults faults' ended = elim ended.ends [
    | inl whole ↦ line_taken told told' faults faults' outcome.line whole.2
    | inr cut ↦ line_taken told told' faults faults' write_fault_line cut.3
  ]
