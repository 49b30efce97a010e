-- Which stimulus a text reads as, and its first fault.
use Rattle.std.specs.Prelude.{◌≡◌, ℕ, ◌≤◌, List, Option, All}
use Rattle.std.specs.List.{sum_by, filter_map}
use Rattle.limits.specs.declared.TheConstants.{MAX_CYCLES}
use Rattle.text_lines.specs.Lines.{parts_of}
use Rattle.net_defs.specs.declared.stimulus.{StimRow.StimRow, Stimulus.Stimulus}
use Rattle.stim_text.specs.{declared.refusal.StimNo.StimNo, Repeats.first_fault_of, Rows.IsAllowed, Rows.row_of, Rows.fault_of}

-- the rows among lines, in order
abbrev pub rows_of : List (List ℕ) → List StimRow
rows_of parts = filter_map row_of parts

-- the sum of the repeats
abbrev pub cycles_of : List StimRow → ℕ
cycles_of rows = sum_by (λ row. row.times) rows

-- These lines read as the stimulus: each is blank or a row for so many inputs, the rows are those of the
-- lines, and there are at most 1,000,000 cycles.
pub record LinesRead (inputs : ℕ) (parts : List (List ℕ)) (stimulus : Stimulus) : Type 0 where
  pub columns : stimulus.columns ≡ inputs
  pub lines : All (IsAllowed inputs) parts
  pub rows : stimulus.rows ≡ rows_of parts
  pub cycles : cycles_of stimulus.rows ≤ MAX_CYCLES

-- the text reads as the stimulus: its lines do
abbrev pub Reads : ℕ → List ℕ → Stimulus → Type 0
Reads inputs text stimulus = LinesRead inputs (parts_of text) stimulus

-- the fault of the first line that has one, each being asked after the cycles of the rows before it
abbrev pub first_fault : ℕ → List ℕ → Option StimNo
first_fault inputs text = first_fault_of row_of (λ row. row.times) (fault_of inputs) (parts_of text)
