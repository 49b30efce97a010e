-- The lines of the printed values are the trace.
use Rattle.std.proofs.Common.{◌≡◌, ◌∙◌, ℕ, suc, ◌+◌, List, [], ◌∷◌, ◌++◌, length, Some, slice_get, refl, sym, ap, arith, zero-add}
use Rattle.std.specs.List.{flat_map, enumerate_from, range_with_len}
use Rattle.logic_four.specs.declared.V4.{V4}
use Rattle.net_defs.specs.Trace.{header_line, cycle_line, cells_of, trace_to, IsTrace}
use Rattle.net_defs.specs.declared.{netlist.Netlist.Netlist, timing.Timing.Timing, stimulus.Stimulus.Stimulus, trace.CellRow.CellRow, trace.Rows.Rows}
use Rattle.net_defs.specs.{Steps.State, Time.cycle_count}
use Rattle.yse_commands.specs.{Outputs.cycle_lines, code.Printed.ArePrinted}

-- lines of rows from a cycle on, whose cells f says
lines_from : (f : ℕ → List V4) (rows : List CellRow) (n : ℕ) → ((c : ℕ) (row : CellRow) → slice_get rows c ≡ Some row → row.cells ≡ f (n + c)) → flat_map (λ p. cycle_line (p.0 + 1) p.1.cells) (enumerate_from n rows) ≡ flat_map (λ c. cycle_line (c + 1) (f c)) (range_with_len n (length rows))
lines_from f [] n cells = refl
lines_from f (row ∷ rows) n cells =
    let first : n + 0 ≡ n = omega arith in
    let here : row.cells ≡ f n = cells 0 row refl ∙ ap f first in
    let others : flat_map (λ p. cycle_line (p.0 + 1) p.1.cells) (enumerate_from (n + 1) rows) ≡ flat_map (λ c. cycle_line (c + 1) (f c)) (range_with_len (n + 1) (length rows)) =
    lines_from f rows (n + 1) (λ c other at. cells (suc c) other at ∙ ap f (later c)) in
    ap (λ values. cycle_line (n + 1) values ++ flat_map (λ p. cycle_line (p.0 + 1) p.1.cells) (enumerate_from (n + 1) rows)) here ∙ ap (λ rest. cycle_line (n + 1) (f n) ++ rest) others
  where
    later : (c : ℕ) → n + suc c ≡ n + 1 + c
    later c = omega arith

-- the header and the lines of the first cycles' printed values are the trace up to them
pub printed_front : (net : Netlist) (timing : Timing) (states : List State) (n : ℕ) (rows : List CellRow) → length rows ≡ n → ((c : ℕ) (row : CellRow) → slice_get rows c ≡ Some row → row.cells ≡ cells_of net timing states (c + 1))
    → header_line net ++ cycle_lines rows ≡ trace_to net timing states n
printed_front net timing states n rows many cells =
    ap (λ lines. header_line net ++ lines)
    (lines_from (λ c. cells_of net timing states (c + 1)) rows 0
    (λ c row at. cells c row at ∙ ap (λ k. cells_of net timing states (k + 1)) (sym (zero-add c)))
    ∙ ap (λ count. flat_map (λ c. cycle_line (c + 1) (cells_of net timing states (c + 1))) (range_with_len 0 count)) many)

-- those of all cycles are the trace of the reference simulation
pub printed_is_trace : (net : Netlist) (timing : Timing) (stimulus : Stimulus) (rows : Rows) → ArePrinted net timing stimulus rows → IsTrace net timing stimulus (header_line net ++ cycle_lines rows.rows)
printed_is_trace net timing stimulus rows printed = record {
  states = printed.states;
  simulation = printed.simulation;
  printed = printed_front net timing printed.states (cycle_count stimulus) rows.rows printed.cells.cycles printed.cells.cells;
}
