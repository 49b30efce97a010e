-- The names that the lines of a draft drive and use.
use Rattle.std.proofs.Common.{◌≡◌, ℕ, ◌+◌, ◌-◌, ◌<◌, ◌≤◌, true, false, not, List, [], ◌∷◌, length, take, get_or, Some, None, sym, ap, ◌∙◌, refl, inl, inr, arith, bytes_eq}
use Rattle.std.proofs.lemmas.List.{take_all, length-map, get_or-map, get_or_append_left, get_or-append_right}
use Rattle.std.proofs.lemmas.Bool.{cases_lt, lt-ltb, le-ltb}
use Rattle.bench_read.proofs.Common.{list_any, BenchNo, Undriven, is_undriven, uses_fault, used, all_driven, all_used, line_of_use}
use Rattle.bench_read.proofs.RowLemmas.{names_driven, names_used}
use Rattle.list_laws.proofs.Tests.{find_first, find_none, none_more, list_any-map}
use Rattle.bench_read.specs.Placed.{Placed, Named, drivers_of, used_in, uses_of}
use Rattle.bench_read.specs.code.Placed.{lines_at}

-- ---- names with the numbers of their lines

abbrev nothing : Named
nothing = record { at = 0; name = [] }

-- a use and the line that it stands in
use_at : (lines : List Placed) (i : ℕ) → get_or (uses_of lines) i nothing ≡ record { at = line_of_use lines i; name = get_or (all_used (lines_at lines)) i [] }
unfolding uses_of all_used line_of_use
use_at [] i = refl
use_at (placed ∷ lines) i =
    let named : List ℕ → Named = λ name. record { at = placed.at; name = name } in
    let same = length-map (used placed.line) named in
    elim (cases_lt i (length (used placed.line))) [
      | inl below ↦
          let first : i < length (used_in placed) = omega arith in
          rw (get_or_append_left, get_or-map named (used placed.line) i [] nothing below, lt-ltb i _ below, get_or_append_left) refl
      | inr past ↦
          rw (get_or-append_right (used_in placed) (uses_of lines) _ i nothing same past, use_at lines (i - length (used placed.line)))
          (rw (le-ltb i _ past, get_or-append_right (used placed.line) (all_used (lines_at lines)) _ i [] refl past) refl)
    ]

-- ---- the first use that nothing drives

-- lines that drive these names and use those, of which none before place i is driven by nothing
module _ (lines : List Placed) (names uses : List (List ℕ)) (drives : all_driven (lines_at lines) ≡ names) (used_are : all_used (lines_at lines) ≡ uses) where
  amount : length (uses_of lines) ≡ length uses
  amount = rw (← used_are, ← names_used lines) (sym (length-map (uses_of lines) (λ (n : Named). n.name)))

  module _ (i : ℕ) (name : List ℕ) (within : i < length uses) (is : get_or uses i [] ≡ name) (before : list_any (is_undriven (drivers_of lines)) (take i (uses_of lines)) ≡ false) where
    undriven_here : is_undriven (drivers_of lines) (get_or (uses_of lines) i nothing) ≡ not (list_any (bytes_eq name) names)
    undriven_here = rw (use_at, used_are, is, ← list_any-map (bytes_eq name) (λ (n : Named). n.name), names_driven, drives) refl

    pub first_undriven : {place : ℕ} {e : BenchNo} → list_any (bytes_eq name) names ≡ false → place ≡ i → e ≡ Undriven name (line_of_use lines place) → uses_fault lines ≡ Some e
    unfolding uses_fault
    first_undriven none at refused =
        rw (find_first (is_undriven (drivers_of lines)) (uses_of lines) i nothing (omega (arith, within, amount)) before (undriven_here ∙ ap not none), use_at, used_are, is, refused, at) refl

    pub driven_more : list_any (bytes_eq name) names ≡ true → list_any (is_undriven (drivers_of lines)) (take (i + 1) (uses_of lines)) ≡ false
    driven_more some = none_more (is_undriven (drivers_of lines)) (uses_of lines) i nothing (omega (arith, within, amount)) before (undriven_here ∙ ap not some)

  pub none_undriven : (i : ℕ) → length uses ≤ i → list_any (is_undriven (drivers_of lines)) (take i (uses_of lines)) ≡ false → uses_fault lines ≡ None
  unfolding uses_fault
  none_undriven i past none = rw (find_none (is_undriven (drivers_of lines)) (uses_of lines) (rw (take_all i (uses_of lines) (omega (arith, past, amount))) at none)) refl
