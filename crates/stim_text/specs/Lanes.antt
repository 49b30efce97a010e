-- Lanes: stimuli that run at once, each for as many cycles as the longest of them has. Lanes are counted
-- from 0.
use Rattle.std.specs.Prelude.{◌≡◌, ℕ, zero, suc, ◌-◌, ◌≤◌, max, List, [], ◌∷◌, ◌++◌, length, replicate, Some, slice_get, unwrap_or}
use Rattle.std.specs.List.{fold}
use Rattle.limits.specs.declared.TheConstants.{LANES}
use Rattle.logic_four.specs.declared.V4.TheVariants.{Undef}
use Rattle.net_defs.specs.{declared.stimulus.StimRow.StimRow, declared.stimulus.Stimulus.Stimulus, Time.cycle_count, Valid.IsValidStimulus}
use Rattle.stim_text.specs.declared.lanes.Lanes.{Lanes}

-- lanes for so many inputs: at most LANES, each with a valid stimulus of so many columns
pub record AreLanes (columns : ℕ) (lanes : Lanes) : Type 0 where
  pub few : length lanes.lanes ≤ LANES
  pub valid : (l : ℕ) (stimulus : Stimulus) → slice_get lanes.lanes l ≡ Some stimulus → IsValidStimulus stimulus
  pub wide : (l : ℕ) (stimulus : Stimulus) → slice_get lanes.lanes l ≡ Some stimulus → stimulus.columns ≡ columns

-- the lane's own stimulus; a lane that isn't given has no rows
unfoldable pub own_stimulus : ℕ → Lanes → ℕ → Stimulus
own_stimulus columns lanes l = unwrap_or (slice_get lanes.lanes l) (record { columns = columns; rows = [] })

-- the number of cycles of the longest lane
unfoldable pub longest : Lanes → ℕ
longest lanes = fold (λ most stimulus. max most (cycle_count stimulus)) 0 lanes.lanes

-- a row of X that stands for so many cycles, and no row for none
unfoldable pub rest_rows : ℕ → ℕ → List StimRow
rest_rows columns zero = []
rest_rows columns (suc more) = record { values = replicate columns Undef; times = suc more } ∷ []

-- the stimulus with X at each input from its last cycle on to this one
unfoldable pub padded : ℕ → Stimulus → Stimulus
padded cycles stimulus = record stimulus { rows = stimulus.rows ++ rest_rows stimulus.columns (cycles - cycle_count stimulus) }

-- the stimulus of the lane as all lanes run: its own, and then X up to the cycles of the longest
unfoldable pub lane_stimulus : ℕ → Lanes → ℕ → Stimulus
lane_stimulus columns lanes l = padded (longest lanes) (own_stimulus columns lanes l)
