-- The operations of some signals, one after the other.
use Rattle.std.proofs.Common.{◌≡◌, ◌≢◌, ◌∙◌, ℕ, ◌+◌, ◌<◌, ◌≤◌, inl, inr, Bool, true, false, if◌then◌else◌, List, [], length, map, get_or, refl, sym, ap, subst, arith, Option, Some, None}
use Rattle.std.proofs.lemmas.{Bool.Decides.eqb_tells, List.get_or_default, List.Elements.All-append, List.Sums.fold-append}
use Rattle.std.specs.List.{All, slice_get, Contains}
use Rattle.list_laws.proofs.{Places.Contains-at, Ranges.last_or}
use Rattle.logic_four.specs.{declared.V4.V4, declared.Kind.Kind, Gates.gate_value}
use Rattle.net_defs.specs.Loops.{is_gate, is_gate_driver, waits_for, IsOrder}
use Rattle.net_defs.specs.declared.netlist.{Netlist.Netlist, Signal.Signal, Driver.Driver, Driver.TheVariants.Gate}
use Rattle.net_defs.specs.{declared.timing.Timing.Timing, Time.value_at, Steps.is_late, Valid.IsValid}
use Rattle.net_ops.specs.Schedules.{operand_place, here_driven, here_value, Settles}
use Rattle.net_ops.specs.{declared.ops.PairOp.PairOp, Lanes.forced, Ops.do_op, Ops.follow, Ops.IsWithin, Places.place_count, code.Sequences.Adds}
use Rattle.rank_find.proofs.lemmas.NumberLemmas.{gate_within}
use Rattle.net_ops.proofs.lemmas.Waits.{map_same, late_or, operand_low, waits_here}
use Rattle.net_ops.proofs.{OpLemmas.adds_as, ScheduleLemmas.order_reads}

-- where the operands of a gate begin, which doesn't read its own place
pub base_apart : (signals base gate : ℕ) (late : Bool) (operands : List ℕ) → base ≡ (if late then signals else 0) → gate < signals → (late ≡ false → (o : ℕ) → Contains operands o → o ≢ gate)
    → (base ≤ signals) × All (λ o. base + o ≢ gate) operands
base_apart signals base gate true operands is low apart = (omega (arith, is), λ k d within. omega (arith, is, low))
base_apart signals base gate false operands is low apart =
    (omega (arith, is), λ k d within same. apart refl (get_or operands k d) (Contains-at operands k (get_or operands k d) within (get_or_default operands k 0 d within)) (omega (arith, is, same)))

module _ {F : Type 0} (answer : F → V4 → V4 → V4) (is_form : F → Type 0) where
  -- the operations of a gate
  pub gate_adds : (net : Netlist) (timing : Timing) (s signals base : ℕ) (driver : Driver) (kind : Kind) (ops now : List ℕ) (old new : List (PairOp F)) → driver ≡ Gate kind ops → now ≡ ops → signals ≡ length net.signals
      → base ≡ (if is_late net timing s then length net.signals else 0)
      → Adds answer is_form signals s (λ row. gate_value kind (map (λ o. value_at row (base + o)) now)) old new → Adds answer is_form (length net.signals) s (λ row. here_driven net timing s row driver) old new
  gate_adds net timing s signals base driver kind ops now old new is same at from adds =
      subst (λ n. Adds answer is_form n s (λ row. here_driven net timing s row driver) old new) at
      (adds_as answer is_form signals s (λ row. gate_value kind (map (λ o. value_at row (base + o)) now)) (λ row. here_driven net timing s row driver) old new adds
      (λ row. rw is (ap (λ xs. gate_value kind (map (λ o. value_at row (base + o)) xs)) same ∙ ap (λ b. gate_value kind (map (λ o. value_at row (b + o)) ops)) from)))

  -- what is added for the driver of a signal is added for the signal
  pub driver_adds : (net : Netlist) (timing : Timing) (s signals : ℕ) (signal : Signal) (old new : List (PairOp F)) → slice_get net.signals s ≡ Some signal
      → Adds answer is_form signals s (λ row. here_driven net timing s row signal.driver) old new → Adds answer is_form signals s (here_value net timing s) old new
  driver_adds net timing s signals signal old new is adds =
      adds_as answer is_form signals s (λ row. here_driven net timing s row signal.driver) (here_value net timing s) old new adds (λ row. rw is refl)

  pub settles_none : (net : Netlist) (timing : Timing) (list : List ℕ) → Settles answer is_form net timing list 0 []
  settles_none net timing list = record {
    within = λ k e below. absurd (omega (arith, below));
    long = λ stuck row. refl;
    here = λ stuck row i long below. absurd (omega (arith, below));
    others = λ stuck row p none. refl;
  }

  -- what a signal has by the row depends on none but the places that it reads
  module _ (net : Netlist) (timing : Timing) (valid : IsValid net) (before after : List V4) (g : ℕ) (low : g < length net.signals) (same : (p : ℕ) → p ≢ g → value_at after p ≡ value_at before p) where
    operand_same : (s o : ℕ) → o < length net.signals → (is_late net timing s ≡ false → o ≢ g) → value_at before (operand_place net timing s o) ≡ value_at after (operand_place net timing s o)
    operand_same s o within apart = elim (late_or net timing s) [
      | inl late ↦
          let place : operand_place net timing s o ≡ length net.signals + o = ap (λ b. (if b then length net.signals else 0) + o) late in
          let one : length net.signals + o ≢ g = omega arith in
          ap (value_at before) place ∙ (sym (same (length net.signals + o) one) ∙ ap (value_at after) (sym place))
      | inr early ↦
          let place : operand_place net timing s o ≡ o = ap (λ b. (if b then length net.signals else 0) + o) early ∙ omega arith in
          ap (value_at before) place ∙ (sym (same o (apart early)) ∙ ap (value_at after) (sym place))
    ]

    -- a gate that does not wait for that place
    here_same : (s : ℕ) → is_gate net s ≡ true → ((o : ℕ) → Contains (waits_for net timing s) o → o ≢ g) → here_value net timing s before ≡ here_value net timing s after
    here_same s gate apart = by_signal (slice_get net.signals s) refl where
      by_driver : (signal : Signal) → slice_get net.signals s ≡ Some signal → (driver : Driver) → signal.driver ≡ driver → is_gate_driver driver ≡ true → here_driven net timing s before driver ≡ here_driven net timing s after driver
      by_driver signal is (Gate kind ops) driver has =
          ap (gate_value kind) (map_same (λ o. value_at before (operand_place net timing s o)) (λ o. value_at after (operand_place net timing s o)) ops (λ o held.
          operand_same s o (operand_low net valid s signal kind ops is driver o held) (λ early. apart o (rw (waits_here net timing s signal kind ops is driver early) held))))
      by_driver signal is _ driver none = cc

      by_signal : (found : Option Signal) → slice_get net.signals s ≡ found → here_value net timing s before ≡ here_value net timing s after
      by_signal None is = let none : is_gate net s ≡ false = rw is refl in absurd (cc)
      by_signal (Some signal) is = rw is (by_driver signal is signal.driver refl (rw is at gate))

  -- one signal more
  pub settles_more : (net : Netlist) (timing : Timing) (valid : IsValid net) (list : List ℕ) (is_order : IsOrder net timing list) (k : ℕ) (old new : List (PairOp F)) → k < length list
      → Settles answer is_form net timing list k old → Adds answer is_form (length net.signals) (get_or list k 0) (here_value net timing (get_or list k 0)) old new → Settles answer is_form net timing list (k + 1) new
  settles_more net timing valid list is_order k old new within so_far adds = record {
    within = rw adds.grown (All-append (IsWithin is_form (length net.signals) (place_count net)) old adds.ops so_far.within adds.within);
    long = λ stuck row. ap length (made stuck row) ∙ (adds.long stuck (follow answer stuck old row) ∙ so_far.long stuck row);
    here = λ stuck row i long below.
        let before_long : length (follow answer stuck old row) ≡ place_count net = so_far.long stuck row ∙ long in
        rw (made stuck row) (value_now stuck row i (omega (arith, below))
        (elim (eqb_tells (get_or list i 0) (get_or list k 0)) [
          | inl h ↦ subst (λ s. value_at (follow answer stuck adds.ops (follow answer stuck old row)) s ≡ forced (stuck s) (here_value net timing s (follow answer stuck old row))) (sym h.1) (adds.here stuck (follow answer stuck old row) before_long)
          | inr h ↦ adds.others stuck (follow answer stuck old row) (get_or list i 0) h.1 ∙ (elim (last_or i k below) [
            | inl earlier ↦ so_far.here stuck row i long earlier
            | inr at ↦ absurd (h.1 (ap (λ n. get_or list n 0) at))
          ])
        ]));
    others = λ stuck row p other.
        ap (λ r. value_at r p) (made stuck row)
        ∙ (adds.others stuck (follow answer stuck old row) p (λ same. other k (omega arith) (sym same)) ∙ so_far.others stuck row p (λ i below. other i (omega arith)));
  } where
    low : get_or list k 0 < length net.signals
    low = gate_within net (get_or list k 0) (is_order.gates k 0 within)

    made : (stuck : ℕ → Option V4) (row : List V4) → follow answer stuck new row ≡ follow answer stuck adds.ops (follow answer stuck old row)
    made stuck row = ap (λ ops. follow answer stuck ops row) adds.grown ∙ fold-append (do_op answer stuck) row old adds.ops

    value_now : (stuck : ℕ → Option V4) (row : List V4) (i : ℕ) → i ≤ k
        → value_at (follow answer stuck adds.ops (follow answer stuck old row)) (get_or list i 0) ≡ forced (stuck (get_or list i 0)) (here_value net timing (get_or list i 0) (follow answer stuck old row))
        → value_at (follow answer stuck adds.ops (follow answer stuck old row)) (get_or list i 0) ≡ forced (stuck (get_or list i 0)) (here_value net timing (get_or list i 0) (follow answer stuck adds.ops (follow answer stuck old row)))
    value_now stuck row i low_i was =
        was ∙ ap (forced (stuck (get_or list i 0)))
        (here_same net timing valid (follow answer stuck old row) (follow answer stuck adds.ops (follow answer stuck old row)) (get_or list k 0) low (adds.others stuck (follow answer stuck old row)) (get_or list i 0)
        (is_order.gates i 0 (omega (arith, low_i, within))) (λ o held. order_reads net timing list is_order i k o low_i within held))
