-- Packed ports that are dealt to the workers of a crew.
use Rattle.std.specs.Prelude.{List, length, ℕ, ◌<◌, ◌≡◌}
use Rattle.crew_run.specs.declared.worker.Worker.{Worker}
use Rattle.image_defs.specs.{Places.host_of, WellFormed.IsWellFormed}
use Rattle.machine_run.specs.Dealt.{AreDealtFrom}
use Rattle.pack_run.specs.declared.seated.PackSeated.{PackSeated}
use Rattle.slot_words.specs.packed.Passes.{IsFirstPass, PackPassView}
use Rattle.stim_text.specs.Lanes.{AreLanes}
use Rattle.pack_machine.specs.{code.Crews.PackCrew, declared.seats.PackSeats.PackSeats}

-- a port of the crew's run, in the turn of the crew
pub record IsSeatOf (crew : PackCrew) (seat : PackSeated) : Type 0 where
  pub image : seat.run.image ≡ crew.image
  pub lanes : seat.run.feed ≡ crew.lanes
  pub turn : seat.run.place.turn ≡ crew.turn

-- the ports of the image from this number on are dealt to the workers, each once; the host is the first member of its
-- worker
abbrev pub AreDealt : {G : Type 0} → PackCrew → ℕ → List (Worker PackSeated G) → Type 0
AreDealt {G} crew from ws = AreDealtFrom (λ (s : PackSeated). s.run.port) (IsSeatOf crew) crew.workers (length crew.image.ports) (host_of crew.image) from ws

-- a port of the image can be seated with this pass
pub record CanSeat (seats : PackSeats) (pass : PackPassView) : Type 0 where
  pub fits : IsWellFormed seats.image.now
  pub valid : AreLanes seats.image.now.columns seats.lanes.now
  pub image_is : seats.bar.now.image ≡ seats.image.now
  pub feed_is : seats.bar.now.feed ≡ seats.lanes.now
  pub first : IsFirstPass seats.bar.now pass.port pass
  pub there : pass.port < length seats.image.now.ports
