-- What a call that may refuse says of its check.
use Rattle.std.specs.Prelude.{Result, Ok, Err}
use Rattle.refusals.specs.{declared.refusal.Refusal.Refusal, Refusals.line_of, Refusals.status_of}
use Rattle.call_steps.specs.{Checks.Refuses, Outcome.Outcome, Outcome.refusal as refused}

abbrev pub refused_of : Refusal → Outcome
refused_of why = refused (status_of why) (line_of why)

-- a call answers what the check lets pass, or its refusal
abbrev pub Satisfies : {X : Type 0} → Result X Refusal → (Result X Outcome → Type 0) → Type 0
Satisfies (Ok x) Checked = Checked (Ok x)
Satisfies (Err why) Checked = Refuses Checked (refused_of why)

-- what a call answers, as a step does
abbrev pub answer : {X : Type 0} → Result X Refusal → Result X Outcome
answer (Ok x) = Ok x
answer (Err why) = Err (refused_of why)
