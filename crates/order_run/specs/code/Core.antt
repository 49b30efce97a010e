-- Beside specs/Core.antt, what only private functions and proofs cite.
use Rattle.std.specs.Prelude.{List, ℕ, ◌≡◌, ◌≤◌}
use Rattle.std.specs.List.{range_with_len}
use Rattle.image_defs.specs.{Frames.image_value, Places.IsPort, WellFormed.IsWellFormed, declared.image.PortImage.PortImage}
use Rattle.event_defs.specs.{Counts.moved_in, Next.IsNext, Steps.AreSteps, declared.place.Action.Action, declared.place.CoreStep.CoreStep}
use Rattle.order_run.specs.Core.{CoreView, turns_of, state_of, IsSoundCore, IsSameCore}

-- this is the next event of port p
pub record IsUpcoming (view : CoreView) (p : ℕ) (action : Action) : Type 0 where
  pub each : (port : PortImage) → IsPort view.image p port
      → IsNext port ((state_of view).place p) view.banks (turns_of view) (image_value view.image view.stimulus ((state_of view).place p).turn p) action

-- its image is well formed, it has a bank, and its state is sound
pub record IsReady (view : CoreView) : Type 0 where
  pub image : IsWellFormed view.image
  pub some : 1 ≤ view.banks
  pub sound : IsSoundCore view

-- one step of each of the first n ports, in ascending order, of which so many moved
pub record HasStepped (old : CoreView) (n moved : ℕ) (new : CoreView) : Type 0 where
  pub same : IsSameCore old new
  pub answers : List CoreStep
  pub steps : AreSteps old.image old.stimulus old.banks (turns_of old) (range_with_len 0 n) (state_of old) answers (state_of new)
  pub moved_are : moved_in answers ≡ moved
  pub few : moved ≤ n
  pub still : moved ≡ 0 → new ≡ old
