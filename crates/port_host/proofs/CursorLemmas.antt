-- The cursor stands at the row of its cycle.
use Rattle.std.proofs.Common.{◌≡◌, ◌∙◌, ◌⊎◌, inl, inr, ℕ, zero, suc, ◌+◌, ◌-◌, ◌<◌, ◌≤◌, List, [], ◌++◌, length, replicate, drop, get_or, Option, Some, None, slice_get, sym, ap, subst, refl, arith}
use Rattle.std.proofs.{Math.ListN.drop_of_length-le, lemmas.Bool.cases_lt, lemmas.List.drop-drop, lemmas.List.length-drop, lemmas.List.get_or-drop}
use Rattle.std.proofs.lemmas.Option.{slice_get_past}
use Rattle.std.specs.List.{flat_map}
use Rattle.list_laws.proofs.Places.{drop_here, past_end}
use Rattle.logic_four.specs.declared.V4.{V4}
use Rattle.net_defs.specs.{declared.stimulus.StimRow.StimRow, declared.stimulus.Stimulus.Stimulus, Time.cycle_rows, Time.cycle_count, Valid.IsValidStimulus}
use Rattle.port_host.specs.{declared.cursor.RowCursor.RowCursor, Rows.values_in, Rows.rows_left, Rows.IsAt, code.Rows.times_in}

-- the cycles of one row
abbrev repeats : StimRow → List (List V4)
repeats row = replicate row.times row.values

-- ---- a cursor at the begin of a row

row_left : (rows : List StimRow) (row : ℕ) → flat_map repeats (drop row rows) ≡ replicate (times_in (slice_get rows row)) (values_in (slice_get rows row)) ++ flat_map repeats (drop (row + 1) rows)
row_left rows row = of_option (slice_get rows row) refl where
  of_option : (o : Option StimRow) → slice_get rows row ≡ o → flat_map repeats (drop row rows) ≡ replicate (times_in o) (values_in o) ++ flat_map repeats (drop (row + 1) rows)
  of_option None there =
      let over : length rows ≤ row = past_end rows row there in
      ap (flat_map repeats) (drop_of_length-le rows over) ∙ sym (ap (flat_map repeats) (drop_of_length-le rows (omega (arith, over))))
  of_option (Some r) there = ap (flat_map repeats) (drop_here rows row r there)

pub at_row : (stimulus : Stimulus) (n row rest : ℕ) → IsValidStimulus stimulus → rest ≡ times_in (slice_get stimulus.rows row) → drop n (cycle_rows stimulus) ≡ flat_map repeats (drop row stimulus.rows)
    → IsAt stimulus n (record { row = row; rest = rest })
at_row stimulus n row rest valid times here = record {
  left = here ∙ (row_left stimulus.rows row ∙ ap (λ k. replicate k (values_in (slice_get stimulus.rows row)) ++ flat_map repeats (drop (row + 1) stimulus.rows)) (sym times));
  serves = λ within. of_option within (slice_get stimulus.rows row) refl;
  behind = λ over. times ∙ ap times_in (slice_get_past stimulus.rows row over);
} where
  of_option : row < length stimulus.rows → (o : Option StimRow) → slice_get stimulus.rows row ≡ o → 1 ≤ rest
  of_option within None there = absurd (omega (arith, within, past_end stimulus.rows row there))
  of_option within (Some r) there =
      let same : rest ≡ r.times = times ∙ ap times_in there in
      omega (arith, same, (valid.times row r there).0)

-- ---- the next cycle

next_left : (stimulus : Stimulus) (n row k : ℕ) → IsAt stimulus n (record { row = row; rest = suc k }) → drop (n + 1) (cycle_rows stimulus) ≡ rows_left stimulus (record { row = row; rest = k })
next_left stimulus n row k at = sym (drop-drop 1 n (cycle_rows stimulus)) ∙ ap (drop 1) at.left

-- where the row serves for more cycles
pub row_stays : (stimulus : Stimulus) (n row rest : ℕ) → 1 < rest → row < length stimulus.rows → IsAt stimulus n (record { row = row; rest = rest }) → IsAt stimulus (n + 1) (record { row = row; rest = rest - 1 })
row_stays stimulus n row zero more within at = absurd (omega arith)
row_stays stimulus n row (suc k) more within at =
    let one_less : suc k - 1 ≡ k = omega arith in
    subst (λ rest. IsAt stimulus (n + 1) (record { row = row; rest = rest })) (sym one_less) (record {
      left = next_left stimulus n row k at;
      serves = λ there. omega (arith, more);
      behind = λ over. absurd (omega (arith, over, within));
    })

-- where this was its last one
pub row_over : (stimulus : Stimulus) (n row rest times : ℕ) → IsValidStimulus stimulus → rest ≤ 1 → row < length stimulus.rows → times ≡ times_in (slice_get stimulus.rows (row + 1)) → IsAt stimulus n (record { row = row; rest = rest })
    → IsAt stimulus (n + 1) (record { row = row + 1; rest = times })
row_over stimulus n row rest times valid last within is at =
    let one : rest ≡ suc 0 = omega (arith, last, at.serves within) in
    at_row stimulus (n + 1) (row + 1) times valid is (next_left stimulus n row 0 (subst (λ k. IsAt stimulus n (record { row = row; rest = k })) one at))

-- ---- the row of the cycle

-- behind all rows none is left
pub none_left : (stimulus : Stimulus) (n : ℕ) (cursor : RowCursor) → IsAt stimulus n cursor → length stimulus.rows ≤ cursor.row → rows_left stimulus cursor ≡ []
none_left stimulus n cursor at over =
    ap (λ k. replicate k (values_in (slice_get stimulus.rows cursor.row)) ++ flat_map repeats (drop (cursor.row + 1) stimulus.rows)) (at.behind over)
    ∙ ap (flat_map repeats) (drop_of_length-le stimulus.rows (omega (arith, over)))

-- within the run there is a row
pub still_within : (stimulus : Stimulus) (n : ℕ) (cursor : RowCursor) → IsAt stimulus n cursor → n < cycle_count stimulus → cursor.row < length stimulus.rows
still_within stimulus n cursor at more = elim (cases_lt cursor.row (length stimulus.rows)) [
  | inl within ↦ within
  | inr over ↦
      let none : length (drop n (cycle_rows stimulus)) ≡ 0 = ap length (at.left ∙ none_left stimulus n cursor at over) in
      absurd (omega (arith, more, length-drop n (cycle_rows stimulus), none))
]

-- it is that of the cycle, within the run and behind it
pub row_at : (stimulus : Stimulus) (n : ℕ) (cursor : RowCursor) → IsAt stimulus n cursor → get_or (cycle_rows stimulus) n [] ≡ values_in (slice_get stimulus.rows cursor.row)
row_at stimulus n cursor at =
    ap (λ k. get_or (cycle_rows stimulus) k []) same ∙ sym (get_or-drop n (cycle_rows stimulus) 0 []) ∙ of_place (cases_lt cursor.row (length stimulus.rows))
  where
    same : n ≡ n + 0
    same = omega arith

    head : (k : ℕ) → 1 ≤ k → get_or (replicate k (values_in (slice_get stimulus.rows cursor.row)) ++ flat_map repeats (drop (cursor.row + 1) stimulus.rows)) 0 [] ≡ values_in (slice_get stimulus.rows cursor.row)
    head zero some = absurd (omega (arith, some))
    head (suc k) some = refl

    of_place : (cursor.row < length stimulus.rows) ⊎ (length stimulus.rows ≤ cursor.row) → get_or (drop n (cycle_rows stimulus)) 0 [] ≡ values_in (slice_get stimulus.rows cursor.row)
    of_place (inl within) = ap (λ rows. get_or rows 0 []) at.left ∙ head cursor.rest (at.serves within)
    of_place (inr over) =
        ap (λ rows. get_or rows 0 []) (at.left ∙ none_left stimulus n cursor at over) ∙ sym (ap values_in (slice_get_past stimulus.rows cursor.row over))
