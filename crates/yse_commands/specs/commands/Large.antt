-- `large`: the summary of a run of a generated design. It always fits its machine, so nothing is refused.
use Rattle.std.specs.Prelude.{◌≡◌, ◌⊎◌, List, ℕ, Some}
use Rattle.large_run.specs.Runs.{IsSummaryOf}
use Rattle.call_steps.specs.{Checks.WritesTold, Outcome.out_of_memory, Outcome.telling, Steps.Call, Steps.Ends}
use Rattle.yse_commands.specs.Told.{large_turns}

-- the summary, without a file; memory for it may be wanting after the run
abbrev pub RunsLarge : ℕ → ℕ → ℕ → Call
RunsLarge gates cycles workers =
    Ends (λ outcome. WritesTold (Some (large_turns cycles workers)) (IsSummaryOf gates cycles) outcome
    ⊎ (outcome ≡ telling (Some (large_turns cycles workers)) out_of_memory))
