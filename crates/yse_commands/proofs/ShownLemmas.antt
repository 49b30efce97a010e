-- The cells that the host keeps are the printed values of the reference simulation.
use Rattle.std.proofs.Common.{◌≡◌, ◌∙◌, ℕ, zero, suc, ◌+◌, ◌-◌, ◌<◌, ◌≤◌, List, ◌++◌, length, Some, slice_get, sym, ap, refl, arith}
use Rattle.std.proofs.lemmas.List.{ext_get_or, length-map, FromFn.get_or-map-range_with_len, FromFn.length-map-range_with_len}
use Rattle.std.proofs.lemmas.Option.{slice_get_within}
use Rattle.std.specs.List.{flat_map, range_with_len}
use Rattle.machine_run.specs.{Lines.bytes_of_run, Lines.cells_shown, Shown.AreShown}
use Rattle.logic_four.specs.declared.V4.{V4, TheVariants.Undef}
use Rattle.net_defs.specs.Trace.{header_line, cells_of, cycle_line, trace_to, IsTrace}
use Rattle.net_defs.specs.declared.{netlist.Netlist.Netlist, timing.Timing.Timing, stimulus.Stimulus.Stimulus, trace.CellRow.CellRow, trace.Rows.Rows}
use Rattle.net_defs.specs.{Time.cycle_count, Steps.State, Valid.IsValidStimulus}
use Rattle.image_defs.specs.{declared.image.Image.Image, Frames.shown}
use Rattle.port_host.specs.Rows.{printed_sources}
use Rattle.call_steps.specs.Images.{IsImageOf}
use Rattle.seen_list.specs.Filling.{Filling}
use Rattle.trace_text.specs.Line.{HasRoom}
use Rattle.yse_commands.specs.Outputs.{CanPrint, cycle_lines}
use Rattle.yse_commands.proofs.TraceLemmas.{printed_front}

-- what is shown of the first cycles are the trace's cells
pub cells_are : (net : Netlist) (timing : Timing) (stimulus : Stimulus) (image : Image) (n : ℕ) (rows : List CellRow) (of : IsImageOf net timing image) → AreShown image stimulus n rows → n ≤ cycle_count stimulus
    → (c : ℕ) (row : CellRow) → slice_get rows c ≡ Some row → row.cells ≡ cells_of net timing (of.shows stimulus).states (c + 1)
cells_are net timing stimulus image n rows of are few c row at =
    let low = slice_get_within rows c row at in
    let wide = are.width c row at ∙ of.printed in
    ext_get_or Undef row.cells (cells_of net timing (of.shows stimulus).states (c + 1)) (wide ∙ sym (length-map net.printed _)) (λ j inside.
    are.cells c j row at (omega (arith, inside, are.width c row at))
    ∙ (of.shows stimulus).cells (c + 1) j (omega (arith, low, are.cycles_are, few)) (omega (arith, inside, wide)))

-- the header and the rows of the first cycles are the trace up to them
pub front_shown : (net : Netlist) (timing : Timing) (stimulus : Stimulus) (image : Image) (n : ℕ) (rows : List CellRow) (of : IsImageOf net timing image) → AreShown image stimulus n rows → n ≤ cycle_count stimulus
    → header_line net ++ cycle_lines rows ≡ trace_to net timing (of.shows stimulus).states n
front_shown net timing stimulus image n rows of are few =
    printed_front net timing (of.shows stimulus).states n rows are.cycles_are (cells_are net timing stimulus image n rows of are few)

-- and those of all cycles are the trace
pub trace_shown : (net : Netlist) (timing : Timing) (stimulus : Stimulus) (image : Image) (rows : List CellRow) → IsImageOf net timing image → AreShown image stimulus (cycle_count stimulus) rows
    → IsTrace net timing stimulus (header_line net ++ cycle_lines rows)
trace_shown net timing stimulus image rows of are = record {
  states = (of.shows stimulus).states;
  simulation = (of.shows stimulus).simulation;
  printed = front_shown net timing stimulus image (cycle_count stimulus) rows of are (omega arith);
}

-- lines of cells that agree in each cycle
lines_alike : (f g : ℕ → List V4) (from n last : ℕ) → from + n ≤ last → ((c : ℕ) → c < last → f (c + 1) ≡ g (c + 1))
    → flat_map (λ c. cycle_line (c + 1) (f (c + 1))) (range_with_len from n) ≡ flat_map (λ c. cycle_line (c + 1) (g (c + 1))) (range_with_len from n)
lines_alike f g from zero last within same = refl
lines_alike f g from (suc n) last within same =
    ap (λ cells. cycle_line (from + 1) cells ++ flat_map (λ c. cycle_line (c + 1) (f (c + 1))) (range_with_len (from + 1) n)) (same from (omega (arith, within)))
    ∙ ap (λ lines. cycle_line (from + 1) (g (from + 1)) ++ lines) (lines_alike f g (from + 1) n last (omega (arith, within)) same)

-- what a run of the image writes is the trace
pub run_trace : (net : Netlist) (timing : Timing) (stimulus : Stimulus) (image : Image) → IsImageOf net timing image → IsTrace net timing stimulus (bytes_of_run net image stimulus)
run_trace net timing stimulus image of = record {
  states = states;
  simulation = (of.shows stimulus).simulation;
  printed =
      ap (λ n. header_line net ++ flat_map (λ c. cycle_line (c + 1) (cells_shown image stimulus (c + 1))) (range_with_len 0 n)) (all (cycle_count stimulus))
      ∙ ap (λ lines. header_line net ++ lines) (lines_alike (cells_shown image stimulus) (cells_of net timing states) 0 (cycle_count stimulus) (cycle_count stimulus) (omega arith) same);
} where
  all : (n : ℕ) → n - 0 ≡ n
  all n = omega arith

  states : List State
  states = (of.shows stimulus).states

  same : (c : ℕ) → c < cycle_count stimulus → cells_shown image stimulus (c + 1) ≡ cells_of net timing states (c + 1)
  same c low =
      let many = length-map-range_with_len (λ j. shown image stimulus (c + 1) j) 0 (length (printed_sources image)) in
      ext_get_or Undef (cells_shown image stimulus (c + 1)) (cells_of net timing states (c + 1)) (many ∙ of.printed ∙ sym (length-map net.printed _)) (λ j inside.
      get_or-map-range_with_len (λ j. shown image stimulus (c + 1) j) 0 (length (printed_sources image)) j j Undef (omega (arith, inside, many)) (omega arith)
      ∙ (of.shows stimulus).cells (c + 1) j (omega (arith, low)) (omega (arith, inside, many, of.printed)))

-- the rows of the first cycles fit the line
pub shown_prints : (net : Netlist) (timing : Timing) (stimulus : Stimulus) (image : Image) (n : ℕ) (rows : Rows) (line : Filling) → HasRoom net line → IsValidStimulus stimulus → IsImageOf net timing image → AreShown image stimulus n rows.rows → n ≤ cycle_count stimulus
    → CanPrint (record { net = net; rows = rows; line = line })
shown_prints net timing stimulus image n rows line room valid of are few = record {
  room = room;
  cells = λ c row at. are.width c row at ∙ of.printed;
  cycles = omega (arith, are.cycles_are, valid.cycles, few);
}
