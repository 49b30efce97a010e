-- The rows of a stimulus by a cursor, the cycles of a run, and the cells that are printed.
use Rattle.std.specs.Prelude.{◌≡◌, ℕ, ◌+◌, ◌-◌, ◌*◌, ◌/◌, ◌<◌, ◌≤◌, List, [], ◌++◌, length, replicate, drop, Option, Some, None, slice_get}
use Rattle.std.specs.List.{flat_map}
use Rattle.logic_four.specs.{declared.V4.V4, Values.value_at}
use Rattle.net_defs.specs.{declared.stimulus.StimRow.StimRow, declared.stimulus.Stimulus.Stimulus, Time.cycle_rows, Time.cycle_count}
use Rattle.image_defs.specs.{declared.image.Source.Source, declared.image.PortImage.PortImage, declared.image.Image.Image, Places.host_of, Places.printed_of}
use Rattle.image_defs.specs.Ports.{PortView, after_end, at_first}
use Rattle.port_host.specs.declared.cursor.{RowCursor.RowCursor, Progress.Progress}

-- ---- rows of the stimulus

abbrev pub values_in : Option StimRow → List V4
values_in None = []
values_in (Some row) = row.values

-- the rows of all cycles from the cursor's on
abbrev pub rows_left : Stimulus → RowCursor → List (List V4)
rows_left stimulus cursor =
    replicate cursor.rest (values_in (slice_get stimulus.rows cursor.row))
    ++ flat_map (λ row. replicate row.times row.values) (drop (cursor.row + 1) stimulus.rows)

-- it stands at the cycle after the first n, or behind all rows
pub record IsAt (stimulus : Stimulus) (n : ℕ) (cursor : RowCursor) : Type 0 where
  pub left : drop n (cycle_rows stimulus) ≡ rows_left stimulus cursor
  pub serves : cursor.row < length stimulus.rows → 1 ≤ cursor.rest
  pub behind : length stimulus.rows ≤ cursor.row → cursor.rest ≡ 0

-- ---- cycles of a run

-- the turn, counted from 1, where a cycle has so many
abbrev pub turn_of : ℕ → Progress → ℕ
turn_of units progress = progress.rows * units + progress.unit + 1

-- it is within the run, and the cursor stands at its cycle
pub record IsOn (stimulus : Stimulus) (units : ℕ) (progress : Progress) : Type 0 where
  pub rows : progress.rows ≤ cycle_count stimulus
  pub unit : progress.unit < units
  pub cursor : IsAt stimulus progress.rows progress.cursor

-- the cycles that are over before a port's turn
abbrev pub rows_done : PortView → ℕ
rows_done view = (view.turn - 1) / view.image.units

-- ---- the host

-- the host, which keeps the rows of so many cycles at most (its window), and how many rows it has given up
pub record HostView : Type 0 where
  pub port : PortView
  pub window : ℕ
  pub first_row : ℕ

-- before its first turn
abbrev pub host_at_first : Image → Stimulus → ℕ → HostView
host_at_first image stimulus window = record { port = at_first image stimulus (host_of image); window = window; first_row = 0 }

-- as a port it has come this far
abbrev pub moved_to : HostView → PortView → HostView
moved_to host port = record host { port = port }

-- the rows that are done once it has ended its turn, less those given up, are no more than its window
abbrev pub HasRoom : HostView → Type 0
HasRoom host = rows_done (after_end host.port) ≤ host.first_row + host.window

-- all rows that are done are given up
abbrev pub given_up : HostView → HostView
given_up host = record host { first_row = rows_done host.port }

-- ---- cells

-- the sources that an image prints
abbrev pub printed_sources : Image → List Source
printed_sources image = of_port (slice_get image.ports (host_of image)) where
  of_port : Option PortImage → List Source
  of_port None = []
  of_port (Some port) = printed_of port.work

-- the place of the first cell of a row, where so many rows come before it
abbrev pub row_start : ℕ → ℕ → ℕ
row_start rows width = rows * width

-- the cells have the rows of the first cycles, one after the other
pub record HasRows (rows width : ℕ) (shown : ℕ → ℕ → V4) (cells : List V4) : Type 0 where
  pub each : (c j : ℕ) → 1 ≤ c → c ≤ rows → j < width → value_at cells (row_start (c - 1) width + j) ≡ shown c j
