-- Rows that are printed one cycle after the other.
use Rattle.std.proofs.Common.{◌≡◌, ◌∙◌, ℕ, ◌+◌, ◌<◌, true, List, [], ◌∷◌, ◌++◌, length, map, take, get_or, set, refl, sym, ap, arith}
use Rattle.std.proofs.lemmas.List.{length-map, length-set, length_push, map-append, get_or-map, take_all, take_more_set}
use Rattle.std.proofs.lemmas.{Option.slice_get_within, Option.slice_get-get_or, Option.get_or_from_slice_get, List.Elements.All-set}
use Rattle.logic_four.specs.declared.V4.{V4}
use Rattle.net_defs.specs.declared.{netlist.Netlist.Netlist, timing.Timing.Timing, stimulus.Stimulus.Stimulus, trace.CellRow.CellRow}
use Rattle.net_defs.specs.{Time.value_at, Time.cycle_count, Steps.values_of}
use Rattle.ref_sim.specs.{Observing.HasWatched, Runs.AreRowsOf, code.Runs.printed_row, code.Runs.value_in, code.Runs.ArePrinted}
use Rattle.net_ops.specs.Lanes.{lane_row}
use Rattle.net_ops.proofs.lemmas.Waits.{map_same}
use Rattle.ref_sim.proofs.CycleLemmas.{same_values}

-- what is printed of a row
pub printed_is : (net : Netlist) (row : List V4) (list : List ℕ) → list ≡ net.printed → map (λ s. value_at (lane_row value_in 0 row) (0 + s)) list ≡ values_of row net.printed
printed_is net row list same =
    ap (map (λ s. value_at (lane_row value_in 0 row) (0 + s))) same
    ∙ map_same (λ s. value_at (lane_row value_in 0 row) (0 + s)) (value_at row) net.printed (λ s held.
    let none : 0 + s ≡ s = omega arith in
    ap (value_at (lane_row value_in 0 row)) none ∙ ap (λ r. value_at r s) (same_values row))

-- a row more
pub printed_more : (net : Netlist) (rows : List CellRow) (done : ℕ) (seen : List (List V4)) (more : ℕ) (row : List V4) (now : List CellRow)
    → now ≡ set rows done (printed_row net row) → ArePrinted net rows done seen (more + 1) → ArePrinted net now (done + 1) (seen ++ row ∷ []) more
printed_more net rows done seen more row now changed before =
    let inside : done < length rows = omega (arith, before.room) in
    record {
      wide = rw changed (All-set (λ r. length r.cells ≡ length net.printed) rows done (printed_row net row) (length-map net.printed (value_at row)) before.wide);
      count = omega (arith, before.count, length_push seen row);
      room = omega (arith, before.room, ap length changed, length-set rows done (printed_row net row));
      cells =
          ap (take (done + 1)) changed ∙ take_more_set rows done (printed_row net row) inside
          ∙ (ap (λ front. front ++ printed_row net row ∷ []) before.cells ∙ sym (map-append (printed_row net) seen (row ∷ [])));
    }

-- once all cycles were looked at, the rows are those of every simulation
pub rows_printed : (net : Netlist) (timing : Timing) (stimulus : Stimulus) (rows : List CellRow) (done : ℕ)
    → HasWatched net timing stimulus (λ seen left. ArePrinted net rows done seen left) true → AreRowsOf net timing stimulus (record { rows = rows })
rows_printed net timing stimulus rows done watched states simulation =
    let seen = watched.rows in
    let whole : length seen ≡ cycle_count stimulus = watched.all refl in
    let all : length rows ≡ done = omega (arith, watched.seen.room, watched.seen.count, watched.cycles, whole) in
    let same : rows ≡ map (printed_row net) seen = sym (take_all done rows (omega (arith, all))) ∙ watched.seen.cells in
    record {
      cycles = omega (arith, all, watched.seen.count, whole);
      cells = λ c row there.
          let inside : c < length seen = omega (arith, slice_get_within rows c row there, all, watched.seen.count) in
          let is : row ≡ printed_row net (get_or seen c []) = sym (get_or_from_slice_get rows c row row there) ∙ (ap (λ list. get_or list c row) same ∙ get_or-map (printed_row net) seen c [] row inside) in
          ap (λ r. r.cells) is ∙ ap (λ r. values_of r net.printed) (watched.ends states simulation c (get_or seen c []) (slice_get-get_or seen c [] inside));
    }
