-- Cells that are counted one after another.
use Rattle.std.proofs.Common.{◌≡◌, ◌∙◌, ℕ, ◌+◌, ◌<◌, List, [], ◌∷◌, ◌++◌, length, take, get_or, cond, add-zero, refl, sym, ap, arith}
use Rattle.std.proofs.lemmas.List.{take_more, append_assoc, Sums.sum_by-append}
use Rattle.std.specs.{List.count_by, Prelude.Bool}
use Rattle.logic_four.specs.declared.V4.TheVariants.{Zero, One, Undef, HighZ}
use Rattle.logic_four.specs.declared.V4.{V4}
use Rattle.large_run.specs.Summaries.{is_zero, is_one, is_undefined, is_high_impedance, counts_of}
use Rattle.large_run.specs.{declared.summary.CellCounts.CellCounts, code.Summaries.with_cell}

abbrev pub total : CellCounts → ℕ
total counts = counts.zeros + counts.ones + counts.xs + counts.zs

pub total_more : (counts : CellCounts) (cell : V4) → total (with_cell counts cell) ≡ total counts + 1
total_more counts Zero = omega arith
total_more counts One = omega arith
total_more counts Undef = omega arith
total_more counts HighZ = omega arith

count_more : (p : V4 → Bool) (xs : List V4) (x : V4) → count_by p (xs ++ x ∷ []) ≡ count_by p xs + cond (p x) 1 0
count_more p xs x =
    let one : 0 + cond (p x) 1 0 ≡ cond (p x) 1 0 = omega arith in
    sum_by-append (λ y. cond (p y) 1 0) xs (x ∷ []) ∙ ap (λ n. count_by p xs + n) one

grown : V4 → List V4 → CellCounts
grown v cells = record {
  zeros = count_by is_zero cells + cond (is_zero v) 1 0;
  ones = count_by is_one cells + cond (is_one v) 1 0;
  xs = count_by is_undefined cells + cond (is_undefined v) 1 0;
  zs = count_by is_high_impedance cells + cond (is_high_impedance v) 1 0;
}

grown_is : (v : V4) (cells : List V4) → grown v cells ≡ with_cell (counts_of cells) v
unfolding grown
grown_is Zero cells = rw (add-zero (count_by is_one cells), add-zero (count_by is_undefined cells), add-zero (count_by is_high_impedance cells)) refl
grown_is One cells = rw (add-zero (count_by is_zero cells), add-zero (count_by is_undefined cells), add-zero (count_by is_high_impedance cells)) refl
grown_is Undef cells = rw (add-zero (count_by is_zero cells), add-zero (count_by is_one cells), add-zero (count_by is_high_impedance cells)) refl
grown_is HighZ cells = rw (add-zero (count_by is_zero cells), add-zero (count_by is_one cells), add-zero (count_by is_undefined cells)) refl

pub cells_more : (cells : List V4) (v : V4) → counts_of (cells ++ v ∷ []) ≡ with_cell (counts_of cells) v
unfolding grown
cells_more cells v = rw (count_more is_zero cells v, count_more is_one cells v, count_more is_undefined cells v, count_more is_high_impedance cells v) (grown_is v cells)

pub row_more : (before cells : List V4) (i : ℕ) (d : V4) → i < length cells → counts_of (before ++ take (i + 1) cells) ≡ with_cell (counts_of (before ++ take i cells)) (get_or cells i d)
row_more before cells i d within =
    ap (λ xs. counts_of (before ++ xs)) (take_more cells i d within)
    ∙ (ap counts_of (sym (append_assoc before (take i cells) (get_or cells i d ∷ []))) ∙ cells_more (before ++ take i cells) (get_or cells i d))
