-- Rows that are filled one after another.
use Rattle.std.proofs.Common.{List, Some, ap, arith, inl, inr, length, set, slice_get, sym, ℕ, ◌+◌, ◌<◌, ◌∙◌, ◌≡◌, ◌≤◌}
use Rattle.std.proofs.lemmas.{Bool.cases_eq, List.length-set, Option.slice_get_within}
use Rattle.list_laws.proofs.{Members.set_other, Members.set_same, Places.one_there}
use Rattle.image_defs.specs.{Frames.shown, declared.image.Image.Image}
use Rattle.logic_four.specs.{Values.value_at, declared.V4.V4}
use Rattle.net_defs.specs.declared.{stimulus.Stimulus.Stimulus, trace.CellRow.CellRow}
use Rattle.port_host.specs.Rows.{printed_sources}
use Rattle.machine_run.specs.{Shown.AreShown, code.Shown.AreFilled, code.Shown.AreWide}

module _ (image : Image) (stimulus : Stimulus) (cycles n : ℕ) (rows : List CellRow) where
  module _ (row : CellRow) (cells : List V4) (within : n < length rows) (is : row.cells ≡ cells) (long : length cells ≡ length (printed_sources image)) where
    here : (c : ℕ) (one : CellRow) → c ≡ n → slice_get (set rows n row) c ≡ Some one → row ≡ one
    here c one same there = one_there (set rows n row) n c row one (sym same) (set_same rows n row within) there

    -- the row that is filled is as wide as the others
    pub wide_more : AreWide cycles (length (printed_sources image)) rows → AreWide cycles (length (printed_sources image)) (set rows n row)
    wide_more wide = record {
      cycles_are = length-set rows n row ∙ wide.cycles_are;
      width = λ c one there. elim (cases_eq c n) [
        | inl same ↦ ap (λ (x : CellRow). length x.cells) (sym (here c one same there)) ∙ (ap length is ∙ long)
        | inr away ↦ wide.width c one (sym (set_other rows n c row away) ∙ there)
      ];
    }

    -- and with it one row more is filled
    pub filled_more : ((j : ℕ) → j < length cells → value_at cells j ≡ shown image stimulus (n + 1) j) → AreFilled image stimulus n rows → AreFilled image stimulus (n + 1) (set rows n row)
    filled_more shows filled = record {
      cells = λ c j one low there inside. elim (cases_eq c n) [
        | inl same ↦ ap (λ (x : CellRow). value_at x.cells j) (sym (here c one same there)) ∙ (ap (λ xs. value_at xs j) is ∙ (shows j (omega (arith, inside, long)) ∙ ap (λ k. shown image stimulus (k + 1) j) (sym same)))
        | inr away ↦ filled.cells c j one (omega (arith, low, away)) (sym (set_other rows n c row away) ∙ there) inside
      ];
    }

  -- once all are filled they are shown
  pub filled_all : cycles ≤ n → AreWide cycles (length (printed_sources image)) rows → AreFilled image stimulus n rows → AreShown image stimulus cycles rows
  filled_all past wide filled = record {
    cycles_are = wide.cycles_are;
    width = wide.width;
    cells = λ c j row there. filled.cells c j row (let within = slice_get_within rows c row there in omega (arith, within, past, wide.cycles_are)) there;
  }
