-- What the inputs have in each lane.
use Rattle.std.proofs.Common.{◌≡◌, ◌∙◌, inl, inr, ℕ, ◌+◌, ◌-◌, ◌/◌, ◌<◌, List, [], get_or, set, Some, None, slice_get, sym, ap, subst, refl, arith}
use Rattle.std.proofs.lemmas.Option.{slice_get_within, slice_get-get_or}
use Rattle.list_laws.proofs.Ranges.{last_or}
use Rattle.logic_four.specs.{declared.V4.V4, declared.V4.TheVariants.Undef, Values.value_at}
use Rattle.net_defs.specs.{declared.timing.Timing.Timing, declared.stimulus.Stimulus.Stimulus, Time.cycle_rows}
use Rattle.net_defs.specs.declared.timing.Mode.TheVariants as mode
use Rattle.net_defs.specs.declared.timing.Init.TheVariants as init
use Rattle.lane_planes.specs.declared.planes.Planes.{Planes}
use Rattle.stim_text.specs.{declared.lanes.Lanes.Lanes, Lanes.own_stimulus, Lanes.lane_stimulus, Lanes.AreLanes}
use Rattle.stim_text.proofs.lemmas.LaneLemmas.{lane_input}
use Rattle.port_host.specs.{declared.cursor.RowCursor.RowCursor, Rows.values_in, Rows.IsAt}
use Rattle.pack_walk.specs.code.Feeds.{fed, AreAt, AreFed, HaveColumn, IsFed}
use Rattle.port_host.proofs.CursorLemmas.{row_at}
use Rattle.pack_walk.proofs.CursorLemmas.{at_set}

-- ---- a lane

pub fed_given : (columns : ℕ) (lanes : Lanes) (n column l : ℕ) (stimulus : Stimulus) (d : RowCursor) (cursors : List RowCursor) (v : V4) → slice_get lanes.lanes l ≡ Some stimulus → AreAt lanes.lanes n cursors
    → v ≡ value_at (values_in (slice_get stimulus.rows (get_or cursors l d).row)) column → v ≡ fed columns lanes n column l
unfolding own_stimulus
fed_given columns lanes n column l stimulus d cursors v given are is =
    let within = slice_get_within lanes.lanes l stimulus given in
    let at : IsAt stimulus n (get_or cursors l d) = are.each l stimulus (get_or cursors l d) given (slice_get-get_or cursors l d (omega (arith, within, are.count))) in
    rw given (is ∙ ap (λ row. value_at row column) (sym (row_at stimulus n (get_or cursors l d) at)))

pub fed_none : (columns : ℕ) (lanes : Lanes) (n column l : ℕ) → slice_get lanes.lanes l ≡ None → Undef ≡ fed columns lanes n column l
unfolding own_stimulus
fed_none columns lanes n column l none = rw none refl

-- as all lanes run
pub fed_padded : (columns : ℕ) (lanes : Lanes) (n column l : ℕ) → fed columns lanes n column l ≡ value_at (get_or (cycle_rows (lane_stimulus columns lanes l)) n []) column
fed_padded columns lanes n column l =
    ap (λ k. value_at (get_or (cycle_rows (own_stimulus columns lanes l)) k []) column) (sym same)
    ∙ (sym (lane_input columns lanes l timing (n + 1) column)
    ∙ ap (λ k. value_at (get_or (cycle_rows (lane_stimulus columns lanes l)) k []) column) same)
  where
    timing : Timing
    timing = record { mode = mode.Unit; units = 1; init = init.Undef; listed = [] }

    same : (n + 1 - 1) / 1 + 1 - 1 ≡ n
    same = omega arith

-- ---- columns

pub have_column : (columns column : ℕ) (lanes : Lanes) → AreLanes columns lanes → column < columns → HaveColumn lanes column
have_column columns column lanes are low = record { valid = are.valid; wide = λ l stimulus given. omega (arith, low, are.wide l stimulus given) }

pub fed_more : (columns : ℕ) (lanes : Lanes) (n c : ℕ) (planes : List Planes) (p : Planes) → AreFed columns lanes n c planes → IsFed columns lanes n c p → AreFed columns lanes n (c + 1) (set planes c p)
fed_more columns lanes n c planes p are is k column low at = elim (at_set planes c k p column at) [
  | inl h ↦ subst (λ j. IsFed columns lanes n j column) (sym h.0) (subst (IsFed columns lanes n c) h.1 is)
  | inr h ↦ elim (last_or k c low) [ inl less ↦ are k column less h.1 | inr same ↦ absurd (h.0 same) ]
]
