-- The stimulus of a lane as all lanes run: it is valid, it has the cycles of the longest lane, and the
-- inputs have what the lane's own stimulus gives them.
use Rattle.std.proofs.Common.{◌≡◌, ℕ, zero, suc, ◌-◌, ◌*◌, ◌≤◌, max, List, [], ◌∷◌, ◌++◌, length, replicate, Option, Some, None, get_or, sym, ap, ◌∙◌, refl, arith, length-append, append-nil}
use Rattle.std.proofs.lemmas.{Grind.flat_map-append, List.length-replicate}
use Rattle.std.specs.{Prelude.slice_get, Prelude.unwrap_or, List.fold, List.flat_map}
use Rattle.limits.specs.declared.TheConstants.{MAX_CYCLES}
use Rattle.logic_four.specs.{declared.V4.V4, declared.V4.TheVariants.Undef, Values.value_at}
use Rattle.logic_four.proofs.lemmas.CodeLemmas.{undefined_at}
use Rattle.net_defs.specs.Time.{cycle_of, cycle_rows, cycle_count, turn_count, input_at}
use Rattle.net_defs.specs.{declared.timing.Timing.Timing, declared.stimulus.StimRow.StimRow, declared.stimulus.Stimulus.Stimulus, Valid.IsValidStimulus}
use Rattle.stim_text.specs.Lanes.{AreLanes, own_stimulus, longest, rest_rows, padded, lane_stimulus}
use Rattle.stim_text.specs.declared.lanes.Lanes.{Lanes}

-- ---- a lane's own stimulus

-- what holds of each stimulus that is given, and of one without rows, holds of each lane's
of_own : (P : Stimulus → Type 0) (columns : ℕ) (lanes : Lanes) (l : ℕ) → ((stimulus : Stimulus) → slice_get lanes.lanes l ≡ Some stimulus → P stimulus) → P (record { columns = columns; rows = [] }) → P (own_stimulus columns lanes l)
unfolding own_stimulus
of_own P columns lanes l given none = of_option (slice_get lanes.lanes l) refl where
  of_option : (o : Option Stimulus) → slice_get lanes.lanes l ≡ o → P (unwrap_or o (record { columns = columns; rows = [] }))
  of_option None there = none
  of_option (Some stimulus) there = given stimulus there

empty_valid : (columns : ℕ) → IsValidStimulus (record { columns = columns; rows = [] })
empty_valid columns = record {
  columns = λ r row there. cc;
  times = λ r row there. cc;
  cycles = omega arith;
}

pub own_valid : (columns : ℕ) (lanes : Lanes) (l : ℕ) → AreLanes columns lanes → IsValidStimulus (own_stimulus columns lanes l)
own_valid columns lanes l are = of_own IsValidStimulus columns lanes l (are.valid l) (empty_valid columns)

pub own_columns : (columns : ℕ) (lanes : Lanes) (l : ℕ) → AreLanes columns lanes → (own_stimulus columns lanes l).columns ≡ columns
own_columns columns lanes l are = of_own (λ s. s.columns ≡ columns) columns lanes l (are.wide l) refl

-- ---- the longest lane

abbrev most_of : ℕ → List Stimulus → ℕ
most_of least stimuli = fold (λ most stimulus. max most (cycle_count stimulus)) least stimuli

least_kept : (least : ℕ) (stimuli : List Stimulus) → least ≤ most_of least stimuli
least_kept least [] = omega arith
least_kept least (s ∷ stimuli) = omega (arith, least_kept (max least (cycle_count s)) stimuli)

each_within : (least : ℕ) (stimuli : List Stimulus) (l : ℕ) (stimulus : Stimulus) → slice_get stimuli l ≡ Some stimulus → cycle_count stimulus ≤ most_of least stimuli
each_within least [] l stimulus there = cc
each_within least (s ∷ stimuli) zero stimulus there =
    let same : s ≡ stimulus = cc in
    omega (arith, ap cycle_count same, least_kept (max least (cycle_count s)) stimuli)
each_within least (s ∷ stimuli) (suc l) stimulus there = each_within (max least (cycle_count s)) stimuli l stimulus there

most_few : (least limit : ℕ) (stimuli : List Stimulus) → least ≤ limit → ((l : ℕ) (stimulus : Stimulus) → slice_get stimuli l ≡ Some stimulus → cycle_count stimulus ≤ limit) → most_of least stimuli ≤ limit
most_few least limit [] few each = few
most_few least limit (s ∷ stimuli) few each =
    most_few (max least (cycle_count s)) limit stimuli (omega (arith, few, each 0 s refl)) (λ l stimulus there. each (suc l) stimulus there)

pub own_cycles : (columns : ℕ) (lanes : Lanes) (l : ℕ) → cycle_count (own_stimulus columns lanes l) ≤ longest lanes
unfolding longest
own_cycles columns lanes l = of_own (λ s. cycle_count s ≤ longest lanes) columns lanes l (λ stimulus there. each_within 0 lanes.lanes l stimulus there) (omega arith)

pub longest_few : (columns : ℕ) (lanes : Lanes) → AreLanes columns lanes → longest lanes ≤ MAX_CYCLES
unfolding longest
longest_few columns lanes are = most_few 0 MAX_CYCLES lanes.lanes (omega arith) (λ l stimulus there. (are.valid l stimulus there).cycles)

-- ---- a padded stimulus

abbrev repeats : StimRow → List (List V4)
repeats row = replicate row.times row.values

rest_cycles : (columns more : ℕ) → flat_map repeats (rest_rows columns more) ≡ replicate more (replicate columns Undef)
unfolding rest_rows
rest_cycles columns zero = refl
rest_cycles columns (suc more) = append-nil (replicate (suc more) (replicate columns Undef))

padded_rows : (cycles : ℕ) (stimulus : Stimulus) → cycle_rows (padded cycles stimulus) ≡ cycle_rows stimulus ++ replicate (cycles - cycle_count stimulus) (replicate stimulus.columns Undef)
unfolding padded
padded_rows cycles stimulus =
    flat_map-append repeats stimulus.rows (rest_rows stimulus.columns (cycles - cycle_count stimulus))
    ∙ ap (λ rest. cycle_rows stimulus ++ rest) (rest_cycles stimulus.columns (cycles - cycle_count stimulus))

padded_count : (cycles : ℕ) (stimulus : Stimulus) → cycle_count stimulus ≤ cycles → cycle_count (padded cycles stimulus) ≡ cycles
padded_count cycles stimulus fits =
    ap length (padded_rows cycles stimulus)
    ∙ length-append (cycle_rows stimulus) (replicate (cycles - cycle_count stimulus) (replicate stimulus.columns Undef))
    ∙ omega (arith, length-replicate (cycles - cycle_count stimulus) (replicate stimulus.columns Undef), fits)

-- each row of it is its own, or has X at each input
rest_row : (columns more r : ℕ) (row : StimRow) → slice_get (rest_rows columns more) r ≡ Some row → (row.values ≡ replicate columns Undef) × (row.times ≡ more) × (1 ≤ more)
unfolding rest_rows
rest_row columns zero r row there = cc
rest_row columns (suc more) zero row there =
    let same : record { values = replicate columns Undef; times = suc more } ≡ row = cc in
    (sym (ap (λ (x : StimRow). x.values) same), sym (ap (λ (x : StimRow). x.times) same), omega arith)
rest_row columns (suc more) (suc r) row there = cc

row_of_either : (rows others : List StimRow) (P : StimRow → Type 0) → ((r : ℕ) (row : StimRow) → slice_get rows r ≡ Some row → P row) → ((r : ℕ) (row : StimRow) → slice_get others r ≡ Some row → P row) → (r : ℕ) (row : StimRow) → slice_get (rows ++ others) r ≡ Some row → P row
row_of_either [] others P each rest r row there = rest r row there
row_of_either (x ∷ rows) others P each rest zero row there = each zero row there
row_of_either (x ∷ rows) others P each rest (suc r) row there = row_of_either rows others P (λ i y is. each (suc i) y is) rest r row there

padded_columns : (cycles : ℕ) (stimulus : Stimulus) → (padded cycles stimulus).columns ≡ stimulus.columns
unfolding padded
padded_columns cycles stimulus = refl

padded_valid : (cycles : ℕ) (stimulus : Stimulus) → IsValidStimulus stimulus → cycle_count stimulus ≤ cycles → cycles ≤ MAX_CYCLES → IsValidStimulus (padded cycles stimulus)
unfolding padded
padded_valid cycles stimulus valid fits few = record {
  columns = row_of_either stimulus.rows (rest_rows stimulus.columns more) (λ row. length row.values ≡ stimulus.columns) valid.columns (λ r row there. ap length (rest_row stimulus.columns more r row there).0 ∙ length-replicate stimulus.columns Undef);
  times = row_of_either stimulus.rows (rest_rows stimulus.columns more) (λ row. (1 ≤ row.times) × (row.times ≤ MAX_CYCLES)) valid.times (λ r row there.
      let is = rest_row stimulus.columns more r row there in
      (omega (arith, is.1, is.2), omega (arith, is.1, few)));
  cycles = omega (arith, padded_count cycles stimulus fits, few);
} where
  more : ℕ
  more = cycles - cycle_count stimulus

-- ---- its stimulus as all lanes run

pub lane_valid : (columns : ℕ) (lanes : Lanes) (l : ℕ) → AreLanes columns lanes → IsValidStimulus (lane_stimulus columns lanes l)
unfolding lane_stimulus
lane_valid columns lanes l are = padded_valid (longest lanes) (own_stimulus columns lanes l) (own_valid columns lanes l are) (own_cycles columns lanes l) (longest_few columns lanes are)

pub lane_columns : (columns : ℕ) (lanes : Lanes) (l : ℕ) → AreLanes columns lanes → (lane_stimulus columns lanes l).columns ≡ columns
unfolding lane_stimulus
lane_columns columns lanes l are = padded_columns (longest lanes) (own_stimulus columns lanes l) ∙ own_columns columns lanes l are

pub lane_cycles : (columns : ℕ) (lanes : Lanes) (l : ℕ) → cycle_count (lane_stimulus columns lanes l) ≡ longest lanes
unfolding lane_stimulus
lane_cycles columns lanes l = padded_count (longest lanes) (own_stimulus columns lanes l) (own_cycles columns lanes l)

-- ---- what the inputs have

undefined_past : (more columns cycle column : ℕ) → value_at (get_or (replicate more (replicate columns Undef)) cycle []) column ≡ Undef
undefined_past zero columns cycle column = refl
undefined_past (suc more) columns zero column = undefined_at columns column
undefined_past (suc more) columns (suc cycle) column = undefined_past more columns cycle column

padded_at : (rows : List (List V4)) (more columns cycle column : ℕ) → value_at (get_or (rows ++ replicate more (replicate columns Undef)) cycle []) column ≡ value_at (get_or rows cycle []) column
padded_at [] more columns cycle column = undefined_past more columns cycle column
padded_at (row ∷ rows) more columns zero column = refl
padded_at (row ∷ rows) more columns (suc cycle) column = padded_at rows more columns cycle column

-- each input has at each turn what the lane's own stimulus gives it; past its rows that is X
pub lane_input : (columns : ℕ) (lanes : Lanes) (l : ℕ) (timing : Timing) (turn column : ℕ) → input_at timing (lane_stimulus columns lanes l) turn column ≡ input_at timing (own_stimulus columns lanes l) turn column
unfolding lane_stimulus
lane_input columns lanes l timing turn column =
    let own = own_stimulus columns lanes l in
    let cycle = cycle_of timing.units turn - 1 in
    ap (λ rows. value_at (get_or rows cycle []) column) (padded_rows (longest lanes) own)
    ∙ padded_at (cycle_rows own) (longest lanes - cycle_count own) own.columns cycle column

-- all lanes have the same turns
pub lane_turns : (columns : ℕ) (lanes : Lanes) (l : ℕ) (timing : Timing) → turn_count timing (lane_stimulus columns lanes l) ≡ timing.units * longest lanes
lane_turns columns lanes l timing = ap (λ n. timing.units * n) (lane_cycles columns lanes l)
