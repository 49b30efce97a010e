-- What the inputs have in each lane, cycle by cycle.
use Rattle.std.specs.Prelude.{◌≡◌, ℕ, ◌+◌, ◌<◌, ◌≤◌, List, [], length, Some, slice_get, slice_index_or}
use Rattle.limits.specs.declared.TheConstants.{LANES}
use Rattle.logic_four.specs.{declared.V4.V4, Values.value_at}
use Rattle.net_defs.specs.{declared.stimulus.Stimulus.Stimulus, Time.cycle_rows, Valid.IsValidStimulus}
use Rattle.lane_planes.specs.{declared.planes.Planes.Planes, Lanes.lane_of}
use Rattle.stim_text.specs.{declared.lanes.Lanes.Lanes, Lanes.own_stimulus, Lanes.AreLanes}
use Rattle.port_host.specs.{declared.cursor.RowCursor.RowCursor, Rows.IsAt}
use Rattle.pack_walk.specs.declared.feed.Feed.TheInside.{Inside}

-- ---- cursors

abbrev pub AreValid : List Stimulus → Type 0
AreValid lanes = (l : ℕ) (stimulus : Stimulus) → slice_get lanes l ≡ Some stimulus → IsValidStimulus stimulus

-- there is one cursor for each lane that is given, which stands at the cycle after the first n, or behind all rows
-- of its lane
pub record AreAt (lanes : List Stimulus) (n : ℕ) (cursors : List RowCursor) : Type 0 where
  pub count : length cursors ≡ length lanes
  pub each : (l : ℕ) (stimulus : Stimulus) (cursor : RowCursor) → slice_get lanes l ≡ Some stimulus → slice_get cursors l ≡ Some cursor → IsAt stimulus n cursor

-- those of the first so many lanes stand one cycle further
pub record AreMoved (lanes : List Stimulus) (n count : ℕ) (cursors : List RowCursor) : Type 0 where
  pub moved : (l : ℕ) (stimulus : Stimulus) (cursor : RowCursor) → l < count → slice_get lanes l ≡ Some stimulus → slice_get cursors l ≡ Some cursor → IsAt stimulus (n + 1) cursor
  pub others : (l : ℕ) (stimulus : Stimulus) (cursor : RowCursor) → count ≤ l → slice_get lanes l ≡ Some stimulus → slice_get cursors l ≡ Some cursor → IsAt stimulus n cursor

-- ---- columns

-- all lanes that are given have this column
pub record HaveColumn (lanes : Lanes) (column : ℕ) : Type 0 where
  pub valid : AreValid lanes.lanes
  pub wide : (l : ℕ) (stimulus : Stimulus) → slice_get lanes.lanes l ≡ Some stimulus → column < stimulus.columns

-- the value of a column in a lane in the cycle after the first n: that of the lane's own row, and X where it has none
abbrev pub fed : ℕ → Lanes → ℕ → ℕ → ℕ → V4
fed columns lanes n column l = value_at (slice_index_or (cycle_rows (own_stimulus columns lanes l)) n []) column

-- in each lane these planes have it
abbrev pub IsFed : ℕ → Lanes → ℕ → ℕ → Planes → Type 0
IsFed columns lanes n column planes = (l : ℕ) → l < LANES → lane_of planes l ≡ fed columns lanes n column l

-- the first so many of these columns have it
abbrev pub AreFed : ℕ → Lanes → ℕ → ℕ → List Planes → Type 0
AreFed columns lanes n count planes = (c : ℕ) (column : Planes) → c < count → slice_get planes c ≡ Some column → IsFed columns lanes n c column

-- ---- a feed: lanes of so many columns, so many cycles of which are over

pub record FeedView : Type 0 where
  pub lanes : Lanes
  pub columns : ℕ
  pub cycles : ℕ

abbrev pub view_of : Inside → FeedView
view_of a = record { lanes = a.lanes.now; columns = a.width; cycles = a.cycles }

pub record IsKept (a : Inside) : Type 0 where
  pub width : a.width ≡ length a.columns
  pub lanes : AreLanes a.width a.lanes.now
  pub cursors : AreAt a.lanes.now.lanes a.cycles a.cursors
  pub columns : AreFed a.width a.lanes.now a.cycles a.width a.columns
