-- What a command comes to by its steps.
use Rattle.std.proofs.Common.{refl, sym, subst, ◌≡◌, List, Option, None, Result, Ok, Err}
use Rattle.std.specs.Result.{IsErr, IsErrAnd}
use Rattle.crew_run.specs.declared.gate.Gate as gate
use Rattle.edge_io.specs.declared.files.Files as files
use Rattle.call_steps.specs.{Outcome.Outcome, Refused.refused_of, Steps.Call}
use Rattle.yse_commands.specs.{declared.output.Output.Output, Refusals.FilesFollow, Refusals.outcome_of, Telling.Comes}
use Rattle.refusals.specs.declared.refusal.Refusal.{Refusal}

module _ {F : Type 0} {tells : files.Ghosts F} {old new : F} {C : Call} where
  -- a refusal that `?` hands on
  pub refused_on : (why : Refusal) (answer : Result Output Refusal) → IsErr answer × IsErrAnd answer (λ other. other ≡ why) → FilesFollow tells old new (refused_of why) C → FilesFollow tells old new (outcome_of None answer) C
  refused_on why (Ok output) is follows = absurd is.1
  refused_on why (Err other) is follows = subst (λ no. FilesFollow tells old new (outcome_of None (Err no)) C) (sym is.1) follows

  module _ {G : Type 0} {p : gate.Ghosts G} {gates : List (Option G)} where
    -- the gates were told nothing
    pub silent : {result : Result Output Refusal} → FilesFollow tells old new (outcome_of None result) C → Comes p tells old new gates gates result C
    silent follows = record { told = None; follows = follows; visits = refl }

    pub silent_on : (why : Refusal) (answer : Result Output Refusal) → IsErr answer × IsErrAnd answer (λ other. other ≡ why) → FilesFollow tells old new (refused_of why) C → Comes p tells old new gates gates answer C
    silent_on why answer is follows = silent (refused_on why answer is follows)
