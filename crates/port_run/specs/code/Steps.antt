-- Beside specs/Steps.antt, what only private functions and proofs cite.
use Rattle.std.specs.Prelude.{ℕ, ◌+◌, ◌<◌, ◌≤◌}
use Rattle.image_defs.specs.{Places.IsPort, declared.image.PortImage.PortImage}
use Rattle.event_defs.specs.{Next.IsNext, declared.place.Action.Action}
use Rattle.crew_run.specs.declared.stepper.Step.{Step, TheVariants.Done, TheVariants.Moved, TheVariants.NotYet}
use Rattle.slot_words.specs.plain.{Passes.IsFit, Passes.PassView, Words.turns_of}
use Rattle.port_run.specs.Steps.{value_there}

-- this is the next event of its place in a block that has this last turn
pub record IsUpcoming (until : ℕ) (pass : PassView) (action : Action) : Type 0 where
  pub fit : IsFit pass
  pub few : until ≤ turns_of pass.image pass.feed
  pub port_image : PortImage
  pub is : IsPort pass.image pass.port port_image
  pub next : IsNext port_image pass.place pass.banks until (value_there pass) action

-- the answer of an Ask
abbrev pub IsAnswer : ℕ → ℕ → ℕ → Step → Type 0
IsAnswer finished turn banks Moved = turn ≤ finished + banks
IsAnswer finished turn banks NotYet = finished + banks < turn
IsAnswer finished turn banks Done = ⊥
