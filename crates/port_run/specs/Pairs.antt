-- A pass and a port that run together, block after block.
use Rattle.std.specs.Prelude.{length, min, ℕ, ◌+◌, ◌≡◌}
use Rattle.net_defs.specs.Time.{cycle_count}
use Rattle.image_defs.specs.Places.{host_of}
use Rattle.event_defs.specs.Places.{start}
use Rattle.port_host.specs.Rows.{HostView, rows_done}
use Rattle.port_walk.specs.Placed.{PlacedPort, at_start, block_end}
use Rattle.slot_words.specs.plain.Passes.{PassView}

-- a running port: its pass, the most cycles of a block (its window), the cycles before its block, and the last
-- turn of the block
pub record RunView : Type 0 where
  pub pass : PassView
  pub window : ℕ
  pub first_row : ℕ
  pub until : ℕ

-- the port at the place of the pass
abbrev pub placed : RunView → PlacedPort
placed run = record {
  image = run.pass.image;
  stimulus = run.pass.feed;
  port = run.pass.port;
  window = run.window;
  first_row = run.first_row;
  until = run.until;
  turn = run.pass.place.turn;
  puts = run.pass.place.puts;
  takes = run.pass.place.takes;
}

-- both are of one port, image and stimulus, before their first event
pub record AreBegun (pass : PassView) (port : PlacedPort) : Type 0 where
  pub place_is : pass.place ≡ start (length pass.image.ports)
  pub port_is : port ≡ at_start pass.image pass.feed pass.port port.window

-- a pass at the start of its first block
abbrev pub first_block : PassView → ℕ → RunView
first_block pass window = record { pass = pass; window = window; first_row = 0; until = block_end pass.image pass.feed 0 window }

-- at the start of its next block
abbrev pub next_block : RunView → RunView
next_block run = record run {
  first_row = run.first_row + run.window;
  until = block_end run.pass.image run.pass.feed (run.first_row + run.window) run.window;
}

-- its pass has come this far in the same block
abbrev pub with_pass : RunView → PassView → RunView
with_pass run pass = record run { pass = pass }

-- all turns up to this one are made
abbrev pub HasMade : ℕ → PassView → Type 0
HasMade until pass = pass.place.turn ≡ until + 1

-- its port has made all turns of its block
abbrev pub IsDone : RunView → Type 0
IsDone run = HasMade run.until run.pass

-- its port is the host, which has come as far, and has the rows of all cycles of its block once it has made all
-- turns of it
pub record IsHostOf (run : RunView) (host : HostView) : Type 0 where
  pub is_host : run.pass.port ≡ host_of run.pass.image
  pub image : host.port.image ≡ run.pass.image
  pub stimulus : host.port.stimulus ≡ run.pass.feed
  pub port : host.port.port ≡ run.pass.port
  pub turn : host.port.turn ≡ run.pass.place.turn
  pub window : host.window ≡ run.window
  pub first_row : host.first_row ≡ run.first_row
  pub all_rows : IsDone run → rows_done host.port ≡ min (run.first_row + run.window) (cycle_count run.pass.feed)
