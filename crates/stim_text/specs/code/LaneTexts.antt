-- Beside specs/LaneTexts.antt, what only private functions and proofs cite.
use Rattle.std.specs.Prelude.{ℕ, List, Option, Some, None, if◌then◌else◌}
use Rattle.net_defs.specs.declared.stimulus.StimRow.{StimRow}
use Rattle.stim_text.specs.declared.lane_line.LaneLine.{LaneLine, TheVariants.Begins, TheVariants.Blank, TheVariants.Row}
use Rattle.stim_text.specs.{Rows.row_of, LaneTexts.begins_lane}

abbrev pub row_line : Option StimRow → LaneLine
row_line None = Blank
row_line (Some row) = Row row

-- what an allowed line is
unfoldable pub lane_line_of : List ℕ → LaneLine
lane_line_of part = if begins_lane part then Begins else row_line (row_of part)

-- the cycles that a line adds to its lane
abbrev pub times_in : LaneLine → ℕ
times_in Begins = 0
times_in Blank = 0
times_in (Row row) = row.times
