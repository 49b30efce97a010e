-- What the run of a large design rests on.
use Rattle.std.proofs.Common.{◌≡◌, ◌∙◌, ℕ, ◌+◌, ◌-◌, ◌^◌, ◌<◌, ◌≤◌, List, length, map, cond, sym, ap, subst, arith, min}
use Rattle.std.proofs.lemmas.List.{Sums.sum_by-append, FromFn.length-map-range_with_len}
use Rattle.limits.specs.declared.TheConstants.{MAX_LARGE_CYCLES}
use Rattle.std.specs.{Prelude.Some, Prelude.slice_get, List.range_with_len}
use Rattle.image_defs.specs.{declared.image.PortImage.PortImage, Places.host_of}
use Rattle.large_run.specs.Large.{gate_driver, gate_signal, gate_state, head_count, input_signal, kind_at, kind_number, large_netlist, large_signals, operands, operand_count, large_printed}
use Rattle.large_run.specs.{declared.summary.Summary.Summary, Draws.draw, Summaries.counts_of, Summaries.summary_text, declared.design.Design.Design}
use Rattle.large_run.specs.{code.Designs.IsDesign, code.Rows.cells_in, Runs.cells_to, Runs.summary_of, Runs.IsSummaryOf}
use Rattle.large_run.specs.Setting.{large_machine, large_timing}
use Rattle.large_run.proofs.{ValidLemmas.not_input, CellLemmas.cells_few, CellLemmas.cells_shown}
use Rattle.list_laws.proofs.{Maps.sum_none_of, Members.member_at}
use Rattle.logic_four.specs.declared.V4.{V4}
use Rattle.machine_run.specs.Shown.{AreShown}
use Rattle.net_defs.specs.declared.{netlist.Netlist.Netlist, netlist.Signal.Signal, stimulus.Stimulus.Stimulus, trace.CellRow.CellRow}
use Rattle.net_defs.specs.{Reference.IsSimulation, Time.cycle_count, Valid.input_count, Valid.is_input}
use Rattle.node_defs.specs.WellFormed.{column_count}
use Rattle.port_host.specs.Rows.{printed_sources}
use Rattle.yse_compile.specs.{declared.compiler.Compiled.Compiled, Compiled.IsCompiled, Compiled.ShowsReference}

-- ---- the netlist

is_one : Signal → ℕ
is_one signal = cond (is_input signal.driver) 1 0

drawn_no_input : (j : ℕ) → is_one (gate_signal j) ≡ 0
unfolding is_one gate_driver
drawn_no_input j =
    ap (λ b. cond b 1 0)
    (not_input (kind_at (kind_number (gate_state j))) (operands (draw_from (gate_state j)) j (operand_count (gate_state j)))) where
      draw_from : ℕ → ℕ
      draw_from x = draw x (head_count x)

-- there are eight inputs
pub inputs_large : (gates : ℕ) → input_count (large_netlist gates) ≡ 8
unfolding is_one large_signals
inputs_large gates =
    sum_by-append is_one (map input_signal (range_with_len 0 8)) (map gate_signal (range_with_len 0 gates))
    ∙ ap (λ n. 8 + n) (sum_none_of is_one gate_signal (range_with_len 0 gates) drawn_no_input)

-- at most eight signals are printed
pub printed_few : (gates : ℕ) → length (large_netlist gates).printed ≤ 8
unfolding large_printed
printed_few gates = let long = length-map-range_with_len (λ j. 8 + j) (gates - 8) (min gates 8) in omega (arith, long)

-- ---- the image

module _ (net : Netlist) (compiled : Compiled) (is : IsCompiled net large_machine large_timing compiled) where
  pub printed_large : length (printed_sources compiled.image) ≡ length net.printed
  printed_large = rw host.1 ((is.built.matches.printed host.0 host.1).as_many ∙ is.items.items.printed.each) where
    host : (port : PortImage) × (slice_get compiled.image.ports (host_of compiled.image) ≡ Some port)
    host = member_at compiled.image.ports (host_of compiled.image) (omega (arith, is.built.fits.some_ports))

-- ---- the summary

abbrev with_cells : Summary → List V4 → Summary
with_cells figures cells = record { gates = figures.gates; nodes = figures.nodes; slots = figures.slots; crossings = figures.crossings; cells = counts_of cells }

module _ (gates cycles : ℕ) (design : Design) (is : IsDesign gates cycles design) where
  -- the image has a column for each value of a row
  pub columns_large : column_count design.compiled.nodes ≡ input_count (large_netlist gates) → design.rows.columns ≡ design.compiled.image.columns
  columns_large inputs = ap (λ (s : Stimulus). s.columns) is.rows ∙ sym (is.compiled.built.matches.columns ∙ (inputs ∙ inputs_large gates))

  -- a run of so many cycles has few cells
  pub run_few : (rows : List CellRow) → AreShown design.compiled.image design.rows (cycle_count design.rows) rows → cycles ≤ MAX_LARGE_CYCLES → length (cells_in rows) < 2 ^ 64
  run_few rows are few =
      let cells = cells_few rows (λ c row at. (let wide = are.width c row at in omega (arith, wide, printed_large (large_netlist gates) design.compiled is.compiled, printed_few gates))) in
      omega (arith, cells, are.cycles_are, is.rows_long, few)

  -- what is told of the rows that the image shows is the summary
  pub summary_shown : (rows : List CellRow) (text : List ℕ) → AreShown design.compiled.image design.rows (cycle_count design.rows) rows → text ≡ summary_text (with_cells design.figures (cells_in rows)) → IsSummaryOf gates cycles text
  summary_shown rows text are told = record {
    nodes = design.compiled.nodes;
    items = is.compiled.items;
    homes = design.compiled.homes;
    picked = is.compiled.picked;
    plan = design.compiled.plan;
    first_fit = is.compiled.first_fit;
    crossings = is.figures.crossings;
    crossed = is.figures.crossed;
    states = shows.states;
    simulation = subst (λ s. IsSimulation (large_netlist gates) large_timing s shows.states) is.rows shows.simulation;
    summary = told ∙ ap summary_text (ap (λ f. with_cells f (cells_in rows)) is.figures.is ∙ ap (λ cells. summary_of gates design.compiled.nodes design.compiled.plan is.figures.crossings cells) cells_are);
  } where
    shows : ShowsReference (large_netlist gates) large_timing design.rows design.compiled.image
    shows = is.shown design.rows

    cells_are : cells_in rows ≡ cells_to (large_netlist gates) large_timing shows.states cycles
    cells_are =
        cells_shown (large_netlist gates) large_timing design.rows design.compiled.image rows shows (printed_large (large_netlist gates) design.compiled is.compiled) are
        ∙ ap (λ n. cells_to (large_netlist gates) large_timing shows.states n) is.rows_long
