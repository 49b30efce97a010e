-- The chains of the three calls, and how the last one ended.
use Rattle.std.proofs.Common.{◌≡◌, ◌∙◌, sym, ap, subst, ◌⊎◌, inl, inr, List, Some, Err, ℕ}
use Rattle.std.specs.Io.KnownBytes.{append_known}
use Rattle.cmd_words.specs.{Asked.asked, declared.command.Command.Command, Forms.HasForm}
use Rattle.cmd_words.specs.declared.command.Command.TheVariants as command
use Rattle.call_steps.specs.{Outcome.Outcome, Readings.Reading}
use Rattle.refusals.specs.declared.status.Status.TheVariants as status
use Rattle.yse_commands.specs.{Expected.Expected, Expected.CallOf, Words.files_named}
use Rattle.yse_top.specs.Law.{TellsWords}
use Rattle.yse_top.proofs.{CallLemmas.asked_came, CheckLemmas.default_is_valid, EndLemmas.fault_rose, ProperLemmas.memory_status}
use Rattle.yse_top.proofs.SequelLemmas.{IsEndOf, Laws, sequel_ends}
use Rattle.yse_top.proofs.law.compiled_images_run.Goals as goal

-- the call of the command that the words ask for
chain_of : TellsWords → (words : List (List ℕ)) (asked_for : Command) → HasForm words asked_for → (readings : List Reading) (o : Outcome) → Expected words readings o → CallOf asked_for readings (Err o) ⊎ (o.status ≡ status.Memory)
unfolding Expected
chain_of laws words asked_for has readings o came = elim (asked_came words readings o came) [
  | inl (other, has_too, next) ↦ inl (subst (λ (c : Command). CallOf c readings (Err o)) (same other (sym ((laws.forms words other).1 has_too) ∙ (laws.forms words asked_for).1 has)) next)
  | inr (inl refused) ↦ absurd (refused.0 asked_for has)
  | inr (inr memory) ↦ inr (memory_status o memory)
]
  where
    same : (other : Command) → Some other ≡ Some asked_for → other ≡ asked_for
    same other e = cc

-- that of a call that ended well
chain_well : TellsWords → (words : List (List ℕ)) (asked_for : Command) → HasForm words asked_for → (readings : List Reading) (o : Outcome) → o.status ≡ status.Done → Expected words readings o → CallOf asked_for readings (Err o)
chain_well laws words asked_for has readings o well expected = elim (chain_of laws words asked_for has readings o expected) [
  | inl chain ↦ chain
  | inr memory ↦ absurd (other (sym well ∙ memory))
]
  where
    other : status.Done ≡ status.Memory → ⊥
    other e = cc

pub returns : goal.returns
returns c compiling running executing compile run exec image form_compiling form_running form_executing design same stimulus before after compiled ran leaves first second
    compiles held_first well short runs held_second well_too names bytes counts counts' third outcome are held_third expected result old new told told' faults_old faults_new told_faults told_faults' ends =
    let words = c.calls_are_proper.ensures.words in
    let laws : Laws = record {
      netlists = c.reads_or_faults.ensures.reader;
      valid_netlists = c.texts_read_as_valid.ensures;
      lists = c.reads_or_faults-2.ensures.reader;
      stimuli = c.reads_or_faults-3.ensures.reader;
      valid_machines = c.reads_as_valid.ensures;
      default_valid = default_is_valid;
      one_simulation = c.one_simulation.ensures.without_loop;
      taken = c.compiled_images_are_taken.ensures;
    } in
    let chain = chain_of words executing (command.Exec exec image) form_executing third outcome expected in
    let end : IsEndOf ran.output outcome = elim chain [
      | inl executes ↦ sequel_ends laws before after compile run exec image compiled ran outcome design same stimulus leaves short first second third
          (chain_well words compiling (command.Compile compile) form_compiling first compiled well compiles) held_first well
          (chain_well words running (command.Run run) form_running second ran well_too runs) held_second well_too held_third executes
      | inr memory ↦ inr (inl memory)
    ] in
    elim ends.ends [
      | inl whole ↦ elim end [
        | inl is ↦ inl (whole.0 ∙ is.0, whole.1 ∙ ap (append_known old) is.1)
        | inr (inl memory) ↦ inr (inl (whole.0 ∙ memory))
        | inr (inr fault) ↦ inr (inr (inl (
          whole.0 ∙ fault,
          fault_rose names bytes counts counts' (files_named (asked executing)) (Expected executing) (c.calls_are_proper.ensures.proper executing) third outcome are expected fault,
        )))
      ]
      | inr cut ↦ inr (inr (inr (cut.0, cut.2)))
    ]
