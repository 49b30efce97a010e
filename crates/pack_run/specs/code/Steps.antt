-- Beside specs/Steps.antt, what only private functions and proofs cite.
use Rattle.std.specs.Prelude.{ℕ}
use Rattle.image_defs.specs.{Places.IsPort, declared.image.PortImage.PortImage}
use Rattle.event_defs.specs.Next.{AsksNext, PutsNext, TakesNext, TellsNext}
use Rattle.crew_run.specs.declared.stepper.Step.{Step}
use Rattle.port_run.specs.code.Steps as plain
use Rattle.port_walk.specs.declared.upcoming.Upcoming.{Upcoming}
use Rattle.port_walk.specs.declared.upcoming.Upcoming.TheVariants as action
use Rattle.slot_words.specs.packed.Passes.{IsFit, IsRunning, PackPassView}
use Rattle.pack_run.specs.Pairs.{HasMadeAll}

-- this is what the pass does next
abbrev pub IsNextAction : PortImage → PackPassView → Upcoming → Type 0
IsNextAction port_image pass (action.Ask reader) = IsRunning pass × AsksNext port_image pass.place 1 reader
IsNextAction port_image pass (action.Put slot) = IsRunning pass × PutsNext port_image pass.place 1 slot
IsNextAction port_image pass (action.Take slot) = IsRunning pass × TakesNext port_image pass.place slot
IsNextAction port_image pass action.Tell = IsRunning pass × TellsNext port_image pass.place
IsNextAction port_image pass action.Done = HasMadeAll pass

-- this is the next event of its place
pub record IsUpcoming (pass : PackPassView) (upcoming : Upcoming) : Type 0 where
  pub fit : IsFit pass
  pub port_image : PortImage
  pub is : IsPort pass.image pass.port port_image
  pub next : IsNextAction port_image pass upcoming

-- the answer of an Ask
abbrev pub IsAnswer : ℕ → ℕ → Step → Type 0
IsAnswer finished turn = plain.IsAnswer finished turn 1
