-- What a plain port with its place keeps: the end of its block, and as the host the rows of it.
use Rattle.std.specs.Prelude.{◌≡◌, ℕ, ◌≤◌}
use Rattle.net_defs.specs.{declared.stimulus.Stimulus.Stimulus, Time.cycle_count, Valid.IsValidStimulus}
use Rattle.image_defs.specs.WellFormed.{IsWellFormed}
use Rattle.port_walk.specs.{declared.any_port.AnyPort.TheInside.Inside, Kinds.rows_of, Placed.PlacedPort, Placed.block_end, Walks.Walked}

-- the port of a walk, in the block behind so many cycles
abbrev pub placed : ℕ → ℕ → Walked Stimulus → PlacedPort
placed window first walk = record {
  image = walk.stand.image;
  stimulus = walk.stimulus;
  port = walk.stand.port;
  window = window;
  first_row = first;
  until = walk.stand.until;
  turn = walk.stand.turn;
  puts = walk.stand.puts;
  takes = walk.stand.takes;
}

abbrev pub view_of : Inside → PlacedPort
view_of a = placed a.window a.first_row a.walk

pub record IsKept (a : Inside) : Type 0 where
  pub image : IsWellFormed a.walk.stand.image
  pub stimulus : IsValidStimulus a.walk.stimulus
  pub units : a.units ≡ a.walk.stand.image.units
  pub cycles : a.cycles ≡ cycle_count a.walk.stimulus
  pub some : 1 ≤ a.window
  pub until : a.walk.stand.until ≡ block_end a.walk.stand.image a.walk.stimulus a.first_row a.window
  pub rows : a.walk.rows ≡ rows_of a.walk.stand.image a.walk.stand.port (a.window, a.first_row)
