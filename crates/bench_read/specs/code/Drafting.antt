-- What the draft of a text is, and what stands in it.
use Rattle.std.specs.Prelude.{◌≡◌, ℕ, ◌≤◌, List, map, length}
use Rattle.limits.specs.declared.TheConstants.{MAX_OPERANDS, MAX_SIGNALS}
use Rattle.bench_text.specs.Rows.{Row}
use Rattle.bench_read.specs.Lines.{Line, all_driven, all_used, operand_count}
use Rattle.bench_read.specs.{declared.draft.Draft.Draft, code.Drafts.lines_by, Placed.Placed, Placed.placed_of, code.Placed.lines_at, Reads.AreOnce}

-- the names that the lines of a draft drive, and those that they use
abbrev pub driven_names : Draft → List (List ℕ)
driven_names draft = map (λ driver. driver.name.now) draft.drivers

abbrev pub used_names : Draft → List (List ℕ)
used_names draft = map (λ name. name.now) draft.uses

-- the lines of a draft
abbrev pub placed_in : Draft → List Placed
placed_in draft = lines_by draft.statements (driven_names draft) (used_names draft)

abbrev pub lines_in : Draft → List Line
lines_in draft = lines_at (placed_in draft)

-- a draft is whole: its lines drive and use its names, the names to be found are those that are driven, none
-- of them twice, and there are not too many signals or operands
pub record IsWhole (draft : Draft) : Type 0 where
  pub drives : all_driven (lines_in draft) ≡ driven_names draft
  pub uses : all_used (lines_in draft) ≡ used_names draft
  pub names : draft.names ≡ driven_names draft
  pub once : AreOnce (driven_names draft)
  pub few_signals : length (driven_names draft) ≤ MAX_SIGNALS
  pub few_operands : operand_count (lines_in draft) ≤ MAX_OPERANDS

-- the draft has the lines that these rows say
pub record IsDraftOf (rows : List Row) (draft : Draft) : Type 0 where
  pub whole : IsWhole draft
  pub said : placed_in draft ≡ placed_of rows
