-- What a step came to.
use Rattle.std.specs.Prelude.{ℕ, ◌≡◌}
use Rattle.crew_run.specs.declared.stepper.Step.{Step}
use Rattle.crew_run.specs.declared.stepper.Step.TheVariants as step

abbrev pub Moved : Step → Type 0
Moved s = s ≡ step.Moved

abbrev pub NotYet : Step → Type 0
NotYet s = s ≡ step.NotYet

abbrev pub Done : Step → Type 0
Done s = s ≡ step.Done

-- the atomic steps that were made
abbrev pub steps_of : Step → ℕ
steps_of step.Moved = 1
steps_of step.NotYet = 1
steps_of step.Done = 0
