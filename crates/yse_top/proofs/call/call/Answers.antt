-- What the command came to, or why there is none.
use Rattle.std.proofs.Common.{◌≡◌, ◌∙◌, sym, refl, map, inl, inr, None}
use Rattle.std.specs.String.{string_bytes}
use Rattle.cmd_words.specs.{declared.command.Command.Command, Forms.HasForm}
use Rattle.cmd_words.specs.declared.command.WordNo.TheVariants.{Usage, Memory}
use Rattle.refusals.specs.declared.refusal.Refusal.TheVariants as refusal
use Rattle.yse_commands.specs.Expected.{Asks}
use Rattle.call_steps.specs.Refused.{refused_of}
use Rattle.call_steps.proofs.lemmas.StepLemmas.{passed_on, passes, refuses, stopped}
use Rattle.yse_top.proofs.CallLemmas.{refused_ends}
use Rattle.yse_top.proofs.call.call.Goals as goal

-- ---- a command

pub returns-in-Ok-clause-came : goal.returns-in-Ok-clause-came
returns-in-Ok-clause-came g c =
    let came = c.obey-status.ensures.came in
    record {
      outcome = came.outcome;
      follows = passed_on (passes (Asks (map string_bytes c.args.words.now)) {x = c.in-Ok.command} c.in-Ok.ensures.form) came.follows;
      ends = came.ends;
      told = came.told;
    }

-- ---- words of no form

pub returns-in-Err-Usage-clause-came : goal.returns-in-Err-Usage-clause-came
returns-in-Err-Usage-clause-came g c =
    let none : (command : Command) → HasForm (map string_bytes c.args.words.now) command → ⊥ = elim c.in-Err-Usage.ensures.form [ inl memory ↦ absurd (usage_not_memory (sym c.in-Err-Usage.field-0-is ∙ memory)) | inr (usage, none) ↦ none ] in
    record {
      outcome = refused_of refusal.Words;
      follows = stopped (refuses (Asks (map string_bytes c.args.words.now)) (inl (none, refl)));
      ends = refused_ends None refusal.Words c.refuse.result _ _ _ _ _ c.refuse.ensures.status refl refl c.refuse.ensures.line;
      told = refl;
    }
  where
    usage_not_memory : Usage ≡ Memory → ⊥
    usage_not_memory e = cc

pub returns-in-Err-Memory-clause-came : goal.returns-in-Err-Memory-clause-came
returns-in-Err-Memory-clause-came g c = record {
  outcome = refused_of refusal.Memory;
  follows = stopped (refuses (Asks (map string_bytes c.args.words.now)) (inr refl));
  ends = refused_ends None refusal.Memory c.refuse-in-Err-Memory.result _ _ _ _ _ c.refuse-in-Err-Memory.ensures.status refl refl c.refuse-in-Err-Memory.ensures.line;
  told = refl;
}
