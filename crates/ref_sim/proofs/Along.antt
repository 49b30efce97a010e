-- The row that the gates make along an order: each gate that is not late has its value over the row
-- as it ends.
use Rattle.std.proofs.Common.{◌≡◌, ◌∙◌, ℕ, zero, suc, ◌+◌, ◌-◌, ◌<◌, ◌≤◌, inl, inr, true, false, if◌then◌else◌, List, length, take, get_or, set, refl, sym, ap, subst, arith, Option, Some, None}
use Rattle.std.proofs.lemmas.List.{Sums.fold_more, take_all, length-set, get_or-set_same}
use Rattle.std.specs.List.{slice_get, Contains, fold}
use Rattle.logic_four.specs.{declared.V4.V4, declared.V4.TheVariants.Undef, declared.Kind.Kind, Gates.gate_value}
use Rattle.net_defs.specs.declared.netlist.Driver.TheVariants.{Input, Gate, Dff, BlockBit}
use Rattle.net_defs.specs.declared.{netlist.Netlist.Netlist, netlist.Signal.Signal, netlist.Driver.Driver, timing.Timing.Timing}
use Rattle.net_defs.specs.{Time.value_at, Steps.is_late, Steps.values_of, Loops.IsGate, Loops.waits_for, Loops.IsOrder}
use Rattle.list_laws.proofs.{Differ.differ_at, Places.place_of, Places.place_below}
use Rattle.rank_find.proofs.lemmas.NumberLemmas.{gate_within}
use Rattle.net_ops.proofs.{Rows.put_value, lemmas.Waits.map_same, lemmas.Waits.late_or, lemmas.Waits.waits_here}

-- what a gate answers over a row; what is no gate keeps its value
abbrev pub gate_driven : List V4 → ℕ → Driver → V4
gate_driven row s Input = value_at row s
gate_driven row s (Gate kind ops) = gate_value kind (values_of row ops)
gate_driven row s (Dff op) = value_at row s
gate_driven row s (BlockBit memory bit) = value_at row s

abbrev pub gate_at : Netlist → List V4 → ℕ → V4
gate_at net row s = of_signal (slice_get net.signals s) where
  of_signal : Option Signal → V4
  of_signal None = value_at row s
  of_signal (Some signal) = gate_driven row s signal.driver

-- a gate that is not late takes its value from the row
abbrev pub settle_gate : Netlist → Timing → List V4 → ℕ → List V4
settle_gate net timing row s = if is_late net timing s then row else set row s (gate_at net row s)

-- the gates one after the other
abbrev pub along : Netlist → Timing → List ℕ → List V4 → List V4
along net timing order row = fold (settle_gate net timing) row order

-- what a driver says of its signal
pub gate_here : (net : Netlist) (s : ℕ) (signal : Signal) (kind : Kind) (ops : List ℕ) → slice_get net.signals s ≡ Some signal → signal.driver ≡ Gate kind ops → IsGate net s
gate_here net s signal kind ops is driver = rw (is, driver) refl

gate_at_here : (net : Netlist) (row : List V4) (s : ℕ) (signal : Signal) (kind : Kind) (ops : List ℕ) → slice_get net.signals s ≡ Some signal → signal.driver ≡ Gate kind ops → gate_at net row s ≡ gate_value kind (values_of row ops)
gate_at_here net row s signal kind ops is driver = rw (is, driver) refl

module _ (net : Netlist) (timing : Timing) (row : List V4) (g : ℕ) where
  pub settle_late : is_late net timing g ≡ true → settle_gate net timing row g ≡ row
  settle_late late = ap (λ b. if b then row else set row g (gate_at net row g)) late

  pub settle_early : is_late net timing g ≡ false → settle_gate net timing row g ≡ set row g (gate_at net row g)
  settle_early early = ap (λ b. if b then row else set row g (gate_at net row g)) early

  settle_length : length (settle_gate net timing row g) ≡ length row
  settle_length = elim (late_or net timing g) [
    | inl h ↦ ap length (settle_late h)
    | inr h ↦ ap length (settle_early h) ∙ length-set row g (gate_at net row g)
  ]

  settle_other : (s : ℕ) → (g ≡ s → is_late net timing s ≡ true) → value_at (settle_gate net timing row g) s ≡ value_at row s
  settle_other s other = elim (late_or net timing g) [
    | inl h ↦ ap (λ r. value_at r s) (settle_late h)
    | inr h ↦ ap (λ r. value_at r s) (settle_early h) ∙ elim (put_value row g s (gate_at net row g)) [
      | inl j ↦
          let late : is_late net timing s ≡ true = other (sym j.0) in
          let early : is_late net timing s ≡ false = ap (is_late net timing) j.0 ∙ h in
          cc
      | inr j ↦ j.1
    ]
  ]

module _ (net : Netlist) (timing : Timing) (order : List ℕ) (is_order : IsOrder net timing order) (base : List V4) (long : length base ≡ length net.signals) where
  row_more : (i : ℕ) → i < length order → along net timing (take (i + 1) order) base ≡ settle_gate net timing (along net timing (take i order) base) (get_or order i 0)
  row_more i within = fold_more (settle_gate net timing) base order i 0 within

  row_whole : along net timing (take (length order) order) base ≡ along net timing order base
  row_whole = ap (λ gates. along net timing gates base) (take_all (length order) order (omega arith))

  length_to : (i : ℕ) → i ≤ length order → length (along net timing (take i order) base) ≡ length base
  length_to zero short = refl
  length_to (suc i) short =
      let add : suc i ≡ i + 1 = omega arith in
      ap (λ n. length (along net timing (take n order) base)) add ∙ (ap length (row_more i (omega arith)) ∙ (settle_length net timing (along net timing (take i order) base) (get_or order i 0) ∙ length_to i (omega arith)))

  pub along_length : length (along net timing order base) ≡ length base
  along_length = ap length (sym row_whole) ∙ length_to (length order) (omega arith)

  stays : (d i s : ℕ) → i + d ≤ length order → ((k : ℕ) → i ≤ k → k < i + d → get_or order k 0 ≡ s → is_late net timing s ≡ true) → value_at (along net timing (take (i + d) order) base) s ≡ value_at (along net timing (take i order) base) s
  stays zero i s short other = ap (λ n. value_at (along net timing (take n order) base) s) (omega arith)
  stays (suc d) i s short other =
      let add : i + suc d ≡ (i + d) + 1 = omega arith in
      ap (λ n. value_at (along net timing (take n order) base) s) add
      ∙ (ap (λ r. value_at r s) (row_more (i + d) (omega arith))
      ∙ (settle_other net timing (along net timing (take (i + d) order) base) (get_or order (i + d) 0) s (other (i + d) (omega arith) (omega arith))
      ∙ stays d i s (omega arith) (λ k low high. other k low (omega arith))))

  from_to_end : (i s : ℕ) → i ≤ length order → ((k : ℕ) → i ≤ k → k < length order → get_or order k 0 ≡ s → is_late net timing s ≡ true) → value_at (along net timing order base) s ≡ value_at (along net timing (take i order) base) s
  from_to_end i s short other =
      let whole : i + (length order - i) ≡ length order = omega arith in
      ap (λ r. value_at r s) (sym row_whole) ∙ (ap (λ n. value_at (along net timing (take n order) base) s) (sym whole) ∙ stays (length order - i) i s (omega arith) (λ k low high. other k low (omega arith)))

  -- what is no gate, or is late, keeps its value
  pub along_keeps : (s : ℕ) → (IsGate net s → is_late net timing s ≡ true) → value_at (along net timing order base) s ≡ value_at base s
  along_keeps s other = from_to_end 0 s (omega arith) (λ k low within same. other (subst (IsGate net) same (is_order.gates k 0 within)))

  module _ (s : ℕ) (signal : Signal) (kind : Kind) (ops : List ℕ) (is : slice_get net.signals s ≡ Some signal) (driver : signal.driver ≡ Gate kind ops) (early : is_late net timing s ≡ false) where
    operands_stay : (i : ℕ) → i < length order → get_or order i 0 ≡ s → (o : ℕ) → Contains ops o → value_at (along net timing (take i order) base) o ≡ value_at (along net timing order base) o
    operands_stay i within at o held =
        let waits : Contains (waits_for net timing (get_or order i 0)) o = rw (at, waits_here net timing s signal kind ops is driver early) held in
        sym (from_to_end i o (omega arith) (λ k low k_within same.
        let gate : IsGate net o = subst (IsGate net) same (is_order.gates k 0 k_within) in
        let before = place_below order i o (omega arith) (is_order.after i o within waits gate) in
        absurd (differ_at order before.0 k is_order.different (omega (arith, before.1)) k_within (before.2 ∙ sym same))))

    -- a gate that is not late has its value over the last row
    pub along_gate : value_at (along net timing order base) s ≡ gate_value kind (values_of (along net timing order base) ops)
    along_gate =
        let gate = gate_here net s signal kind ops is driver in
        let at = place_of order s (is_order.whole s gate) in
        let within = at.1 in
        let long_here = length_to at.0 (omega (arith, within)) in
        let room : s < length (along net timing (take at.0 order) base) = omega (arith, gate_within net s gate) in
        from_to_end (at.0 + 1) s (omega (arith, within)) (λ k low k_within same. absurd (differ_at order at.0 k is_order.different (omega arith) k_within (at.2 ∙ sym same)))
        ∙ (ap (λ r. value_at r s) (row_more at.0 within)
        ∙ (ap (λ g. value_at (settle_gate net timing (along net timing (take at.0 order) base) g) s) at.2
        ∙ (ap (λ r. value_at r s) (settle_early net timing (along net timing (take at.0 order) base) s early)
        ∙ (get_or-set_same (along net timing (take at.0 order) base) s (gate_at net (along net timing (take at.0 order) base) s) Undef room
        ∙ (gate_at_here net (along net timing (take at.0 order) base) s signal kind ops is driver
        ∙ ap (gate_value kind) (map_same (value_at (along net timing (take at.0 order) base)) (value_at (along net timing order base)) ops (operands_stay at.0 within at.2)))))))
