-- An order of the netlist serves the faulty one, where the stuck signal waits for nothing.
use Rattle.std.proofs.Common.{◌≡◌, ◌≢◌, ◌∙◌, ◌⊎◌, inl, inr, ℕ, zero, suc, ◌<◌, Bool, true, false, if◌then◌else◌, List, [], ◌∷◌, length, take, get_or, refl, sym, ap, subst, arith}
use Rattle.std.proofs.lemmas.{Bool.Decides.eqb_tells, List.Kept.AllPairs-cons, List.Elements.All-cons}
use Rattle.std.specs.List.{Contains}
use Rattle.logic_four.specs.declared.V4.TheVariants.{Zero, One, Undef, HighZ}
use Rattle.logic_four.specs.declared.V4.{V4}
use Rattle.net_defs.specs.Loops.{is_gate, IsGate, is_gate_driver, gate_operands, waits_for, IsOrder, IsCircle}
use Rattle.net_defs.specs.{declared.netlist.Netlist.Netlist, declared.timing.Timing.Timing, declared.stimulus.Stimulus.Stimulus, Steps.is_late}
use Rattle.net_defs.specs.{Reference.HasOneSimulation, declared.faults.Fault.Fault}
use Rattle.rank_find.proofs.Existence.{order_or_loop}
use Rattle.ref_sim.proofs.lemmas.Simulations.{one_along}
use Rattle.fault_sim.specs.{Faults.constant, Faults.stuck, Faults.IsFault, code.Faults.order_for}
use Rattle.fault_sim.proofs.Stuck.{stuck_here, stuck_else}

constant_is_gate : (v : V4) → is_gate_driver (constant v) ≡ true
constant_is_gate Zero = refl
constant_is_gate One = refl
constant_is_gate Undef = refl
constant_is_gate HighZ = refl

constant_waits : (late : Bool) (v : V4) → (if late then [] else gate_operands (constant v)) ≡ []
constant_waits true v = refl
constant_waits false Zero = refl
constant_waits false One = refl
constant_waits false Undef = refl
constant_waits false HighZ = refl

-- no number stands in an empty list
none_held : (x : ℕ) → Contains [] x → ⊥
none_held x held = absurd (omega (arith, held.1))

module _ (net : Netlist) (fault : Fault) (is : IsFault net fault) where
  pub gate_here : IsGate (stuck net fault) fault.signal
  gate_here = rw (stuck_here net fault is) (constant_is_gate fault.value)

  pub gate_else : (s : ℕ) → s ≢ fault.signal → is_gate (stuck net fault) s ≡ is_gate net s
  gate_else s other = rw (stuck_else net fault is s other) refl

  pub gate_more : (s : ℕ) → IsGate net s → IsGate (stuck net fault) s
  gate_more s gate = elim (eqb_tells s fault.signal) [
    | inl h ↦ subst (IsGate (stuck net fault)) (sym h.1) gate_here
    | inr h ↦ gate_else s h.1 ∙ gate
  ]

  gate_less : (s : ℕ) → IsGate (stuck net fault) s → (s ≡ fault.signal) ⊎ IsGate net s
  gate_less s gate = elim (eqb_tells s fault.signal) [
    | inl h ↦ inl h.1
    | inr h ↦ inr (sym (gate_else s h.1) ∙ gate)
  ]

  module _ (timing : Timing) where
    waits_none : waits_for (stuck net fault) timing fault.signal ≡ []
    waits_none = rw (stuck_here net fault is) (constant_waits (is_late (stuck net fault) timing fault.signal) fault.value)

    waits_else : (s : ℕ) → s ≢ fault.signal → waits_for (stuck net fault) timing s ≡ waits_for net timing s
    waits_else s other = rw (stuck_else net fault is s other) refl

    -- what waits in the faulty netlist isn't stuck, and waits in the netlist too
    waits_less : (s operand : ℕ) → Contains (waits_for (stuck net fault) timing s) operand → (s ≢ fault.signal) × Contains (waits_for net timing s) operand
    waits_less s operand held = elim (eqb_tells s fault.signal) [
      | inl h ↦ absurd (none_held operand (subst (λ list. Contains list operand) (ap (waits_for (stuck net fault) timing) h.1 ∙ waits_none) held))
      | inr h ↦ (h.1, subst (λ list. Contains list operand) (waits_else s h.1) held)
    ]

    module _ (order : List ℕ) (is_order : IsOrder net timing order) where
      among : IsGate net fault.signal → IsOrder (stuck net fault) timing order
      among gate = record {
        different = is_order.different;
        gates = λ k d within. gate_more (get_or order k d) (is_order.gates k d within);
        whole = λ s there. is_order.whole s (known s there);
        after = λ i operand within waits there. is_order.after i operand within ((waits_less (get_or order i 0) operand waits).1) (known operand there);
      } where
        known : (s : ℕ) → IsGate (stuck net fault) s → IsGate net s
        known s there = elim (gate_less s there) [ inl h ↦ subst (IsGate net) (sym h) gate | inr h ↦ h ]

      held_more : (x : ℕ) (xs : List ℕ) (y : ℕ) → Contains xs x → Contains (y ∷ xs) x
      held_more x xs y held = (suc held.0, omega (arith, held.1), held.2)

      before_all : is_gate net fault.signal ≡ false → IsOrder (stuck net fault) timing (fault.signal ∷ order)
      before_all none = record {
        different = AllPairs-cons (λ s t. s ≢ t) fault.signal order (λ k d within same. let gate : is_gate net (get_or order k d) ≡ true = is_order.gates k d within in let no_gate : is_gate net (get_or order k d) ≡ false = ap (is_gate net) (sym same) ∙ none in cc) is_order.different;
        gates = All-cons (IsGate (stuck net fault)) fault.signal order gate_here (λ k d within. gate_more (get_or order k d) (is_order.gates k d within));
        whole = λ s there. elim (gate_less s there) [
          | inl h ↦ (zero, omega arith, sym h)
          | inr h ↦ held_more s order fault.signal (is_order.whole s h)
        ];
        after = after_all;
      } where
        after_all : (i operand : ℕ) → i < length (fault.signal ∷ order) → Contains (waits_for (stuck net fault) timing (get_or (fault.signal ∷ order) i 0)) operand → IsGate (stuck net fault) operand → Contains (take i (fault.signal ∷ order)) operand
        after_all zero operand within waits there = absurd ((waits_less fault.signal operand waits).0 refl)
        after_all (suc i) operand within waits there = elim (gate_less operand there) [
          | inl h ↦ (zero, omega arith, sym h)
          | inr h ↦ held_more operand (take i order) fault.signal (is_order.after i operand (omega arith) ((waits_less (get_or order i 0) operand waits).1) h)
        ]

      pub order_serves : IsOrder (stuck net fault) timing (order_for net fault order)
      order_serves = by_test (is_gate net fault.signal) refl where
        by_test : (test : Bool) → is_gate net fault.signal ≡ test → IsOrder (stuck net fault) timing (if test then order else fault.signal ∷ order)
        by_test true gate = among gate
        by_test false none = before_all none

-- there is exactly one faulty simulation
pub one_stuck : (net : Netlist) (timing : Timing) (stimulus : Stimulus) (fault : Fault) (order : List ℕ) → IsFault net fault → IsOrder net timing order → HasOneSimulation (stuck net fault) timing stimulus
one_stuck net timing stimulus fault order is is_order = one_along (stuck net fault) timing stimulus (order_for net fault order) (order_serves net fault is timing order is_order)

pub one_faulty : (net : Netlist) (timing : Timing) (stimulus : Stimulus) (fault : Fault) → ((members : List ℕ) → IsCircle net timing members → ⊥) → IsFault net fault → HasOneSimulation (stuck net fault) timing stimulus
one_faulty net timing stimulus fault none is = elim (order_or_loop net timing) [
  | inl order ↦ one_stuck net timing stimulus fault order.0 is order.1
  | inr loop ↦ absurd (none loop.0 loop.1.circle)
]
