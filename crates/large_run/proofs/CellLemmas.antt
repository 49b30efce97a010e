-- The cells of a run: how many there are, and that they are those of the reference simulation.
use Rattle.std.proofs.Common.{◌≡◌, ◌∙◌, ℕ, suc, ◌+◌, ◌*◌, ◌<◌, ◌≤◌, Bool, List, [], ◌∷◌, ◌++◌, length, take, drop, get_or, cond, refl, sym, ap, arith}
use Rattle.std.proofs.lemmas.{List.length-append, List.length-map, List.ext_get_or, List.Sums.sum_by-cons, Option.slice_get_within}
use Rattle.std.specs.{Prelude.Some, Prelude.slice_get, List.count_by, List.flat_map, List.range_with_len}
use Rattle.image_defs.specs.declared.image.Image.{Image}
use Rattle.large_run.specs.Summaries.{counts_of, is_zero, is_one, is_undefined, is_high_impedance}
use Rattle.large_run.specs.{code.Rows.cells_in, Runs.cells_to}
use Rattle.large_run.proofs.SummaryLemmas.{total}
use Rattle.list_laws.proofs.Maps.{flat_map_at}
use Rattle.logic_four.specs.declared.V4.TheVariants.{Zero, One, Undef, HighZ}
use Rattle.logic_four.specs.declared.V4.{V4}
use Rattle.machine_run.specs.Shown.{AreShown}
use Rattle.net_defs.specs.declared.{netlist.Netlist.Netlist, stimulus.Stimulus.Stimulus, timing.Timing.Timing, trace.CellRow.CellRow}
use Rattle.net_defs.specs.{Time.cycle_count, Trace.cells_of}
use Rattle.port_host.specs.Rows.{printed_sources}
use Rattle.yse_compile.specs.Compiled.{ShowsReference}

-- ---- how many there are

module _ (v : V4) (vs : List V4) where
  one_more : (p : V4 → Bool) → count_by p (v ∷ vs) ≡ cond (p v) 1 0 + count_by p vs
  one_more p = sum_by-cons (λ y. cond (p y) 1 0) v vs

-- each cell is counted once
pub total_counts : (cells : List V4) → total (counts_of cells) ≡ length cells
total_counts [] = refl
total_counts (Zero ∷ vs) = omega (arith, one_more Zero vs is_zero, one_more Zero vs is_one, one_more Zero vs is_undefined, one_more Zero vs is_high_impedance, total_counts vs)
total_counts (One ∷ vs) = omega (arith, one_more One vs is_zero, one_more One vs is_one, one_more One vs is_undefined, one_more One vs is_high_impedance, total_counts vs)
total_counts (Undef ∷ vs) = omega (arith, one_more Undef vs is_zero, one_more Undef vs is_one, one_more Undef vs is_undefined, one_more Undef vs is_high_impedance, total_counts vs)
total_counts (HighZ ∷ vs) = omega (arith, one_more HighZ vs is_zero, one_more HighZ vs is_one, one_more HighZ vs is_undefined, one_more HighZ vs is_high_impedance, total_counts vs)

-- one row more is within the rows
pub room_left : (rows : List CellRow) (i : ℕ) (row : CellRow) → row ≡ get_or rows i row → i < length rows → length (cells_in (take i rows)) + length row.cells ≤ length (cells_in rows)
room_left rows i row is within =
    let all = ap length (flat_map_at (λ (r : CellRow). r.cells) rows i row is within) in
    let front = length-append (cells_in (take i rows)) (row.cells ++ cells_in (drop (i + 1) rows)) in
    let back = length-append row.cells (cells_in (drop (i + 1) rows)) in
    omega (arith, all, front, back)

-- rows of at most eight cells
pub cells_few : (rows : List CellRow) → ((c : ℕ) (row : CellRow) → slice_get rows c ≡ Some row → length row.cells ≤ 8) → length (cells_in rows) ≤ 8 * length rows
cells_few [] each = omega arith
cells_few (row ∷ rows) each =
    let rest = cells_few rows (λ c r at. each (suc c) r at) in
    let here = each 0 row refl in
    let all = length-append row.cells (cells_in rows) in
    omega (arith, rest, here, all)

-- ---- which they are

-- rows one by one
cells_from : (f : ℕ → List V4) (rows : List CellRow) (a : ℕ) → ((c : ℕ) (row : CellRow) → slice_get rows c ≡ Some row → row.cells ≡ f (a + c)) → cells_in rows ≡ flat_map f (range_with_len a (length rows))
cells_from f [] a each = refl
cells_from f (row ∷ rows) a each =
    let here : row.cells ≡ f a = each 0 row refl ∙ ap f (omega arith) in
    let rest : cells_in rows ≡ flat_map f (range_with_len (a + 1) (length rows)) = cells_from f rows (a + 1) (λ c r at. each (suc c) r at ∙ ap f (omega arith)) in
    ap (λ xs. xs ++ cells_in rows) here ∙ ap (λ xs. f a ++ xs) rest

-- the rows of an image that shows the reference have its cells
pub cells_shown : (net : Netlist) (timing : Timing) (stimulus : Stimulus) (image : Image) (rows : List CellRow) (shows : ShowsReference net timing stimulus image)
    → length (printed_sources image) ≡ length net.printed → AreShown image stimulus (cycle_count stimulus) rows → cells_in rows ≡ cells_to net timing shows.states (cycle_count stimulus)
cells_shown net timing stimulus image rows shows printed are =
    cells_from (λ c. cells_of net timing shows.states (c + 1)) rows 0 (λ c row at. each c row at ∙ ap (λ n. cells_of net timing shows.states (n + 1)) (omega arith))
    ∙ ap (λ n. cells_to net timing shows.states n) are.cycles_are where
      each : (c : ℕ) (row : CellRow) → slice_get rows c ≡ Some row → row.cells ≡ cells_of net timing shows.states (c + 1)
      each c row at =
          let low = slice_get_within rows c row at in
          let wide = are.width c row at ∙ printed in
          ext_get_or Undef row.cells (cells_of net timing shows.states (c + 1)) (wide ∙ sym (length-map net.printed _)) (λ j inside.
          are.cells c j row at (omega (arith, inside, are.width c row at))
          ∙ shows.cells (c + 1) j (omega (arith, low, are.cycles_are)) (omega (arith, inside, wide)))
