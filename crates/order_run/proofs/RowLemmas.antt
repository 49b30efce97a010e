-- The rows of a core, one more at a time.
use Rattle.std.proofs.Common.{◌≡◌, ◌∙◌, inl, inr, ℕ, ◌+◌, ◌<◌, ◌≤◌, List, [], ◌∷◌, ◌++◌, length, Some, slice_get, sym, ap, subst, refl, arith}
use Rattle.std.proofs.lemmas.{Bool.cases_lt, List.length_push, Option.slice_get_within}
use Rattle.list_laws.proofs.Places.{at_front, seam_at}
use Rattle.logic_four.specs.{declared.V4.V4, Values.value_at}
use Rattle.net_defs.specs.declared.{stimulus.Stimulus.Stimulus, trace.CellRow.CellRow}
use Rattle.image_defs.specs.{declared.image.Image.Image, Frames.shown}
use Rattle.port_host.specs.Rows.{printed_sources}
use Rattle.machine_run.specs.Shown.{AreShown}

-- the row of one more cycle
pub shown_more : (image : Image) (stimulus : Stimulus) (n : ℕ) (rows : List CellRow) (cells : List V4) → AreShown image stimulus n rows → length cells ≡ length (printed_sources image)
    → ((j : ℕ) → j < length cells → value_at cells j ≡ shown image stimulus (n + 1) j) → AreShown image stimulus (n + 1) (rows ++ record { cells = cells } ∷ [])
shown_more image stimulus n rows cells so_far wide are = record {
  cycles_are = length_push rows (record { cells = cells }) ∙ ap (λ k. k + 1) so_far.cycles_are;
  width = λ c row at. elim (cases_lt c (length rows)) [
    | inl inside ↦ so_far.width c row (sym (at_front rows (record { cells = cells } ∷ []) c inside) ∙ at)
    | inr past ↦ subst (λ (r : CellRow). length r.cells ≡ length (printed_sources image)) (sym (last c row past at).1) wide
  ];
  cells = λ c j row at low. elim (cases_lt c (length rows)) [
    | inl inside ↦ so_far.cells c j row (sym (at_front rows (record { cells = cells } ∷ []) c inside) ∙ at) low
    | inr past ↦
        let is = last c row past at in
        ap (λ (r : CellRow). value_at r.cells j) is.1 ∙ are j (omega (arith, low, wide)) ∙ ap (λ k. shown image stimulus (k + 1) j) (sym is.0)
  ];
} where
  last : (c : ℕ) (row : CellRow) → length rows ≤ c → slice_get (rows ++ record { cells = cells } ∷ []) c ≡ Some row → (c ≡ n) × (row ≡ record { cells = cells })
  last c row past at =
      let low = slice_get_within (rows ++ record { cells = cells } ∷ []) c row at in
      let here : c ≡ length rows = omega (arith, low, past, length_push rows (record { cells = cells })) in
      (here ∙ so_far.cycles_are, cc (ap (slice_get (rows ++ record { cells = cells } ∷ [])) here, seam_at {X = CellRow} rows (record { cells = cells }) [], at))
