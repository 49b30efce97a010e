-- What holds of the fields of a running port.
use Rattle.std.specs.Prelude.{◌≡◌}
use Rattle.port_walk.specs.Placed.{block_end}
use Rattle.port_run.specs.{Pairs.RunView, Pairs.placed, declared.running.Running.TheInside.Inside}

abbrev pub view_of : Inside → RunView
view_of a = record { pass = a.pass; window = a.port.window; first_row = a.port.first_row; until = a.port.until }

-- the port is at the place of the pass, and its block is one of its image and stimulus
pub record IsKept (a : Inside) : Type 0 where
  pub port : a.port ≡ placed (view_of a)
  pub until : a.port.until ≡ block_end a.pass.image a.pass.feed a.port.first_row a.port.window
