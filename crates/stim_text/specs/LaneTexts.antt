-- Which lanes a text reads as, and its first fault.
use Rattle.std.specs.Prelude.{◌≡◌, ℕ, ◌+◌, ◌≤◌, ◌==◌, Bool, false, List, [], length, take, drop, map, codes, bytes_eq, slice_index_or, Option, Some, None, if◌then◌else◌, nat_lt, All, IsTrue, count_by}
use Rattle.std.specs.{List.slice_split, List.after_last, Option.option_map}
use Rattle.limits.specs.declared.TheConstants.{LANES}
use Rattle.text_lines.specs.{Answers.first, Lines.parts_of, Words.words_of}
use Rattle.net_defs.specs.declared.stimulus.Stimulus.{Stimulus}
use Rattle.stim_text.specs.declared.{lanes.Lanes.Lanes, refusal.LaneNo.LaneNo}
use Rattle.stim_text.specs.declared.refusal.LaneNo.TheVariants.{NoLane, TooMany, Stim}
use Rattle.stim_text.specs.{Repeats.is_blank_part, Repeats.only_word, Rows.fault_of, Stimuli.LinesRead, Stimuli.rows_of, Stimuli.cycles_of}

-- ---- the lines of lanes

abbrev pub is_lane_word : Option (List ℕ) → Bool
is_lane_word None = false
is_lane_word (Some word) = bytes_eq word (codes "lane")

-- whether a line begins a lane: `lane` is its only word
unfoldable pub begins_lane : List ℕ → Bool
begins_lane part = is_lane_word (only_word (words_of part))

-- how many lanes begin among these lines
abbrev pub lane_count : List (List ℕ) → ℕ
lane_count parts = count_by begins_lane parts

-- the lines before the first lane begins
abbrev pub lines_before : List (List ℕ) → List (List ℕ)
lines_before parts = slice_index_or (slice_split begins_lane parts) 0 []

-- the lines of each lane: those after the one that begins it, up to the one that begins the next
unfoldable pub lane_lines : List (List ℕ) → List (List (List ℕ))
lane_lines parts = drop 1 (slice_split begins_lane parts)

-- the lines since the last lane began
abbrev pub lines_since : List (List ℕ) → List (List ℕ)
lines_since parts = after_last begins_lane parts

-- ---- which lanes a text reads as

-- the stimulus that lines of a lane make
abbrev pub stimulus_of : ℕ → List (List ℕ) → Stimulus
stimulus_of inputs parts = record { columns = inputs; rows = rows_of parts }

-- The text reads as the lanes: no row stands before the first lane, the lanes are what the lines of each
-- make, those read as a stimulus for so many inputs, and there are at most LANES lanes.
pub record ReadsAsLanes (inputs : ℕ) (text : List ℕ) (lanes : Lanes) : Type 0 where
  pub before : All (λ part. IsTrue (is_blank_part part)) (lines_before (parts_of text))
  pub lanes_are : lanes.lanes ≡ map (stimulus_of inputs) (lane_lines (parts_of text))
  pub each : All (λ parts. LinesRead inputs parts (stimulus_of inputs parts)) (lane_lines (parts_of text))
  pub few : lane_count (parts_of text) ≤ LANES

-- ---- the first fault

-- the fault of a line, in the line of this number, after so many lanes have begun, the last of which has so
-- many cycles
unfoldable pub lane_fault : ℕ → ℕ → ℕ → ℕ → List ℕ → Option LaneNo
lane_fault inputs lanes cycles line part =
    if begins_lane part then (if nat_lt lanes LANES then None else Some (TooMany line))
    else if lanes == 0 then (if is_blank_part part then None else Some (NoLane line))
    else option_map Stim (fault_of inputs cycles line part)

-- the fault of the line at a place among the lines, counted from 0
abbrev pub lane_fault_at : ℕ → List (List ℕ) → ℕ → Option LaneNo
lane_fault_at inputs parts i =
    fault_after (take i parts) (slice_index_or parts i [])
  where
    fault_after : List (List ℕ) → List ℕ → Option LaneNo
    fault_after before part = lane_fault inputs (lane_count before) (cycles_of (rows_of (lines_since before))) (i + 1) part

-- the fault of the first line that has one
abbrev pub first_lanes_fault : ℕ → List ℕ → Option LaneNo
first_lanes_fault inputs text = first (lane_fault_at inputs (parts_of text)) (length (parts_of text))
