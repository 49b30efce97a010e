-- A crew that runs a machine in blocks of cycles, as contracts see it.
use Rattle.std.specs.Prelude.{min, ℕ, ◌*◌, ◌+◌, ◌-◌, ◌≡◌}
use Rattle.image_defs.specs.declared.image.Image.{Image}
use Rattle.net_defs.specs.{Time.cycle_count, declared.stimulus.Stimulus.Stimulus}
use Rattle.port_host.specs.Rows.{HostView, rows_done}
use Rattle.slot_words.specs.plain.Words.{turns_of}

-- so many workers that step the ports of an image under a stimulus, in blocks of so many cycles (its window): the
-- block comes after the first `first_row` cycles, and all ports have made the turns of the first `rows` cycles
pub record CrewView : Type 0 where
  pub image : Image
  pub stimulus : Stimulus
  pub workers : ℕ
  pub window : ℕ
  pub first_row : ℕ
  pub rows : ℕ

-- before the first turn
abbrev pub at_first : Image → Stimulus → ℕ → ℕ → CrewView
at_first image stimulus workers window = record { image = image; stimulus = stimulus; workers = workers; window = window; first_row = 0; rows = 0 }

-- the cycles that are over at the end of its block
abbrev pub rows_at_end : CrewView → ℕ
rows_at_end crew = min (crew.first_row + crew.window) (cycle_count crew.stimulus)

-- behind the last turn of its block
abbrev pub at_block_end : CrewView → CrewView
at_block_end crew = record crew { rows = rows_at_end crew }

-- in the block that comes after the cycles that are over
abbrev pub in_next_block : CrewView → CrewView
in_next_block crew = record crew { first_row = crew.rows }

-- the turns that each port has made, and those that are left
abbrev pub turns_made : CrewView → ℕ
turns_made crew = crew.image.units * crew.rows

abbrev pub turns_left : CrewView → ℕ
turns_left crew = turns_of crew.image crew.stimulus - turns_made crew

-- the host of the crew, which has the rows of the cycles of its block that are over
pub record IsHostOfCrew (crew : CrewView) (host : HostView) : Type 0 where
  pub image : host.port.image ≡ crew.image
  pub stimulus : host.port.stimulus ≡ crew.stimulus
  pub first_row : host.first_row ≡ crew.first_row
  pub rows : rows_done host.port ≡ crew.rows
