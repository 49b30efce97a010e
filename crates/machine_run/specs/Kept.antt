-- What holds of the fields of a crew.
use Rattle.std.specs.Prelude.{length, ◌≡◌, ◌≤◌}
use Rattle.image_defs.specs.WellFormed.{IsWellFormed}
use Rattle.net_defs.specs.{Time.cycle_count, Valid.IsValidStimulus}
use Rattle.machine_run.specs.{Crews.CrewView, Crews.rows_at_end, Dealt.AreDealt, declared.crew.Crew.TheInside.Inside}

abbrev pub view_of : {G : Type 0} → Inside G → CrewView
view_of a = record {
  image = a.image.now;
  stimulus = a.stim.now;
  workers = length a.workers;
  window = a.window;
  first_row = a.first_row;
  rows = a.rows;
}

-- all ports are dealt to its workers, and have come as far as the crew, which is within its block
pub record IsKept {G : Type 0} (a : Inside G) : Type 0 where
  pub fits : IsWellFormed a.image.now
  pub valid : IsValidStimulus a.stim.now
  pub cycles : a.cycles ≡ cycle_count a.stim.now
  pub some_cycles : 1 ≤ a.window
  pub some_workers : 1 ≤ length a.workers
  pub given : a.first_row ≤ a.rows
  pub few : a.rows ≤ rows_at_end (view_of a)
  pub dealt : AreDealt (view_of a) 0 a.workers
