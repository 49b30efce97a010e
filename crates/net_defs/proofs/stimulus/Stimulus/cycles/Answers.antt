use Rattle.std.proofs.Common.{◌≡◌, ◌∙◌, sym, ℕ, ◌+◌, ◌<◌, ◌≤◌, List, [], ◌∷◌, ◌++◌, length, take, get_or, replicate, ap, arith, length-append, append-nil}
use Rattle.std.proofs.lemmas.{List.take_more, List.length-replicate, List.Folds.length-flat_map-take, Grind.flat_map-append}
use Rattle.std.specs.List.{flat_map}
use Rattle.logic_four.specs.declared.V4.{V4}
use Rattle.net_defs.specs.declared.stimulus.StimRow.{StimRow}
use Rattle.net_defs.proofs.stimulus.Stimulus.cycles.Goals as goal

abbrev repeats : StimRow → List (List V4)
repeats row = replicate row.times row.values

abbrev cycles_of : List StimRow → ℕ
cycles_of rows = length (flat_map repeats rows)

cycles_of-append : (rows others : List StimRow) → cycles_of (rows ++ others) ≡ cycles_of rows + cycles_of others
cycles_of-append rows others = rw (flat_map-append repeats rows others) (length-append (flat_map repeats rows) (flat_map repeats others))

cycles_of-single : (row : StimRow) → cycles_of (row ∷ []) ≡ row.times
cycles_of-single row = rw (append-nil (repeats row)) (length-replicate row.times row.values)

cycles_of-more : (rows : List StimRow) (i : ℕ) (row : StimRow) → i < length rows → row ≡ get_or rows i row → cycles_of (take (i + 1) rows) ≡ cycles_of (take i rows) + row.times
cycles_of-more rows i row within is =
    ap cycles_of (take_more rows i row within) ∙ (rw (← is) (cycles_of-append (take i rows) (row ∷ []) ∙ ap (λ n. cycles_of (take i rows) + n) (cycles_of-single row)))

cycles_of-within : (rows : List StimRow) (i : ℕ) (row : StimRow) → i < length rows → row ≡ get_or rows i row → cycles_of (take i rows) + row.times ≤ cycles_of rows
cycles_of-within rows i row within is =
    let fits : cycles_of (take i rows) + length (repeats (get_or rows i row)) ≤ cycles_of rows = length-flat_map-take repeats rows i row within in
    let long : length (repeats row) ≡ row.times = length-replicate row.times row.values in
    let same : length (repeats (get_or rows i row)) ≡ length (repeats row) = ap (λ r. length (repeats r)) (sym is) in
    omega arith

pub overflow_add-cycles : goal.overflow_add-cycles
overflow_add-cycles c =
    let fits = cycles_of-within _ _ _ c.loop-row-test.true c.row-item.is in
    let whole = ap cycles_of c.as_slice-row-items.ensures in
    omega (arith, fits, whole, c.loop-row.invariant.so_far, c.requires.cycles)

pub loop-row-preserved : goal.loop-row-preserved
loop-row-preserved c = record {
  so_far = let more = cycles_of-more _ _ _ c.loop-row-test.true c.row-item.is in omega (arith, more, c.loop-row.invariant.so_far);
  whole = c.loop-row.invariant.whole;
}
