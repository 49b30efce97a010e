-- Gates with room for 2 ^ 62 turns of each port have room for those of any members.
use Rattle.std.proofs.Common.{List, Option, Some, arith, length, slice_get, ℕ, ◌<◌, ◌^◌, ◌≡◌, ◌≤◌}
use Rattle.std.proofs.lemmas.Option.{slice_get_within}
use Rattle.list_laws.proofs.Places.{read_below}
use Rattle.crew_run.specs.{Crews.AreReady, Crews.CanTell, Crews.CanTellOf, Lending.AllAreReady, Lending.AllCanRunWith, declared.worker.Worker.Worker}
use Rattle.crew_run.specs.declared.gate.Gate as gate
use Rattle.crew_run.specs.declared.stepper.Stepper as stepper

module _ {S G : Type 0} (m : stepper.Ghosts S) (p : gate.Ghosts G) where
  pub can_tell_of : (members : List S) (gate : Option G) → AreReady m members → CanTell p gate → CanTellOf m p members gate
  can_tell_of members gate ready tell = record {
    told = tell.told;
    is = tell.is;
    room = λ k a at. omega (arith, read_below (p.times tell.told) (m.port a) (2 ^ 62) tell.times, ready.small k a at, ready.begun k a at);
  }

  -- so workers can run with such gates, whichever turns their members have left
  pub can_run_with : (ws : List (Worker S G)) (gates : List (Option G)) → AllAreReady m ws → length ws ≤ length gates
      → ((i : ℕ) (gate : Option G) → i < length ws → slice_get gates i ≡ Some gate → CanTell p gate) → AllCanRunWith m p ws gates
  can_run_with ws gates ready enough tell = record {
    ready = ready;
    enough = enough;
    tell = λ i w gate at there. can_tell_of w.members gate (ready i w at) (tell i gate (slice_get_within ws i w at) there);
  }
