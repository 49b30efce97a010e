-- Cycles of a run, and rows of cells.
use Rattle.std.proofs.Common.{◌≡◌, ◌≢◌, ◌∙◌, ◌⊎◌, inl, inr, ℕ, suc, ◌+◌, ◌-◌, ◌*◌, ◌/◌, ◌<◌, ◌≤◌, List, length, get_or, set, Some, slice_get, sym, ap, subst, refl, arith}
use Rattle.std.proofs.{Math.Nat.suc-mul, Math.Nat.mul-le-mul_right, lemmas.Bool.cases_lt, lemmas.Nat.div-mul-add}
use Rattle.std.proofs.lemmas.{List.length-set, List.get_or-set_same, List.get_or-set_other, Option.get_or_from_slice_get}
use Rattle.list_laws.proofs.Ranges.{last_or}
use Rattle.logic_four.specs.{declared.V4.V4, declared.V4.TheVariants.Undef, Values.value_at}
use Rattle.image_defs.specs.{declared.image.Source.Source, Ports.PortView, Ports.after_end}
use Rattle.port_bank.specs.Reads.{IsTaken}
use Rattle.port_host.specs.Rows.{turn_of, rows_done, row_start, HasRows}
use Rattle.port_host.specs.{declared.cursor.Progress.Progress, code.Rows.HasPrinted}

-- ---- numbers

-- one row more
pub one_more : (m n width : ℕ) → n ≡ m + 1 → n * width ≡ m * width + width
one_more m n width same = let e : n ≡ suc m = omega (arith, same) in ap (λ k. k * width) e ∙ suc-mul m width

-- a row before the end has room
pub row_fits : (rows count width : ℕ) → rows < count → rows * width + width ≤ count * width
row_fits rows count width below =
    let all : (rows + 1) * width ≤ count * width = mul-le-mul_right width (omega (arith, below)) in
    omega (arith, all, one_more rows (rows + 1) width refl)

-- the cycles that are over are those of the turn
pub cycles_over : (units turn : ℕ) (progress : Progress) → progress.unit < units → turn ≡ turn_of units progress → (turn - 1) / units ≡ progress.rows
cycles_over units turn progress low is =
    let before : turn - 1 ≡ progress.rows * units + progress.unit = omega (arith, is) in
    ap (λ k. k / units) before ∙ div-mul-add progress.rows units progress.unit low

-- a turn of the run is in a cycle of the run
pub cycle_runs : (units count turn : ℕ) (progress : Progress) → turn ≡ turn_of units progress → turn ≤ units * count → progress.rows < count
cycle_runs units count turn progress is few = elim (cases_lt progress.rows count) [
  | inl below ↦ below
  | inr past ↦ absurd (omega (arith, is, few, mul-le-mul_right units past, commuted))
] where
  commuted : units * count ≡ count * units
  commuted = omega arith

-- the cycles that are over after one turn more
pub cycle_ends : (units : ℕ) (old new : Progress) → new.unit < units → turn_of units new ≡ turn_of units old + 1 → old.unit + 1 ≡ units → new.rows ≡ old.rows + 1
cycle_ends units old new low more last =
    sym (cycles_over units (turn_of units new) new low refl)
    ∙ (ap (λ k. k / units) at ∙ div-mul-add (old.rows + 1) units 0 (omega (arith, low)))
  where
    at : turn_of units new - 1 ≡ (old.rows + 1) * units + 0
    at = omega (arith, more, last, one_more old.rows (old.rows + 1) units refl)

pub cycle_goes_on : (units : ℕ) (old new : Progress) → old.unit < units → new.unit < units → turn_of units new ≡ turn_of units old + 1 → old.unit + 1 ≢ units → new.rows ≡ old.rows
cycle_goes_on units old new low_old low more other =
    sym (cycles_over units (turn_of units new) new low refl)
    ∙ (ap (λ k. k / units) at ∙ div-mul-add old.rows units (old.unit + 1) within)
  where
    at : turn_of units new - 1 ≡ old.rows * units + (old.unit + 1)
    at = omega (arith, more)

    within : old.unit + 1 < units
    within = elim (cases_lt (old.unit + 1) units) [
      | inl below ↦ below
      | inr past ↦ absurd (other (omega (arith, past, low_old)))
    ]

-- the cycles that are over after the last turn of one
pub cycle_done : (view : PortView) (cycle : ℕ) → 1 ≤ view.image.units → view.turn ≡ cycle * view.image.units → rows_done (after_end view) ≡ cycle
cycle_done view cycle some last =
    let over : view.turn + 1 - 1 ≡ cycle * view.image.units + 0 = omega (arith, last) in
    ap (λ n. n / view.image.units) over ∙ div-mul-add cycle view.image.units 0 (omega (arith, some))

-- ---- rows of cells

-- one source more
pub printed_more : (view : PortView) (sources : List Source) (j start : ℕ) (d : Source) (v : V4) (old cells : List V4) → j < length sources → start + length sources ≤ length old
    → HasPrinted view sources j start old cells → IsTaken view (get_or sources j d) v → HasPrinted view sources (j + 1) start old (set cells (start + j) v)
printed_more view sources j start d v old cells low room has taken = record {
  long = length-set cells (start + j) v ∙ has.long;
  printed = λ i source few there. of_place i source there (last_or i j few);
  before = λ k low. get_or-set_other cells (start + j) k v Undef (λ e. omega (arith, e, low)) ∙ has.before k low;
} where
  within : start + j < length cells
  within = omega (arith, low, room, has.long)

  of_place : (i : ℕ) (source : Source) → slice_get sources i ≡ Some source → (i < j) ⊎ (i ≡ j) → IsTaken view source (value_at (set cells (start + j) v) (start + i))
  of_place i source there (inl earlier) =
      subst (IsTaken view source) (sym (get_or-set_other cells (start + j) (start + i) v Undef (λ e. omega (arith, e, earlier)))) (has.printed i source earlier there)
  of_place i source there (inr here) =
      let found : get_or sources j d ≡ source = get_or_from_slice_get sources j source d (subst (λ k. slice_get sources k ≡ Some source) here there) in
      let value : value_at (set cells (start + j) v) (start + i) ≡ v = ap (λ k. value_at (set cells (start + j) v) (start + k)) here ∙ get_or-set_same cells (start + j) v Undef within in
      subst (IsTaken view source) (sym value) (subst (λ s. IsTaken view s v) found taken)

-- a row that is printed behind the others is there with them
pub row_more : (rows width : ℕ) (shown : ℕ → ℕ → V4) (old new : List V4) → HasRows rows width shown old → ((k : ℕ) → k < row_start rows width → value_at new k ≡ value_at old k)
    → ((j : ℕ) → j < width → value_at new (row_start rows width + j) ≡ shown (rows + 1) j) → HasRows (rows + 1) width shown new
row_more rows width shown old new has before here = record { each = λ c j some few low. of_row c j some few low (cases_lt rows c) } where
  of_row : (c j : ℕ) → 1 ≤ c → c ≤ rows + 1 → j < width → (rows < c) ⊎ (c ≤ rows) → value_at new (row_start (c - 1) width + j) ≡ shown c j
  of_row c j some few low (inl last) =
      let c_is : c ≡ rows + 1 = omega (arith, last, few) in
      let row_is : c - 1 ≡ rows = omega (arith, c_is) in
      ap (λ r. value_at new (row_start r width + j)) row_is ∙ here j low ∙ ap (λ r. shown r j) (sym c_is)
  of_row c j some few low (inr earlier) =
      let fits : (c - 1) * width + width ≤ rows * width = row_fits (c - 1) rows width (omega (arith, some, earlier)) in
      before (row_start (c - 1) width + j) (omega (arith, fits, low)) ∙ has.each c j some earlier low
