-- The steps of a lane, in which its fault is stuck, are those of its netlist.
use Rattle.std.proofs.Common.{◌≡◌, ◌≢◌, ◌∙◌, ◌⊎◌, inl, inr, ℕ, suc, ◌+◌, ◌≤◌, ◌==◌, if◌then◌else◌, List, length, replicate, refl, ap, subst, arith, Option, Some, None}
use Rattle.std.proofs.lemmas.{Option.slice_get_within, List.length-set, Bool.Decides.eqb_tells}
use Rattle.std.specs.List.{slice_get}
use Rattle.list_laws.proofs.Places.{within_some}
use Rattle.logic_four.specs.declared.V4.TheVariants.{Zero, One, Undef, HighZ}
use Rattle.logic_four.specs.declared.V4.{V4}
use Rattle.net_defs.specs.declared.{netlist.Netlist.Netlist, netlist.Signal.Signal, timing.Timing.Timing, stimulus.Stimulus.Stimulus}
use Rattle.net_defs.specs.{Time.value_at, Steps.State, Steps.driven, Steps.first_state, Loops.IsOrder, declared.faults.Fault.Fault}
use Rattle.net_ops.specs.{Lanes.forced, States.IsForcedStep}
use Rattle.net_ops.proofs.Steps.{free_step}
use Rattle.fault_sim.specs.code.Lanes.{force_at, stuck_in, stuck_value, AreForces}
use Rattle.fault_sim.specs.{declared.force.Forces.Forces, Faults.stuck, Faults.IsFault, Faults.IsStuckStep, code.Faults.order_for}
use Rattle.ref_sim.specs.Observing.{RunsAs}
use Rattle.fault_sim.proofs.{Orders.order_serves, Stuck.stuck_signal, Stuck.stuck_step}

-- what a lane's signals are stuck at
module _ (faults : List Fault) (k : ℕ) (fault : Fault) (found : slice_get faults k ≡ Some fault) where
  at_fault : (s : ℕ) → force_at faults (suc k) s ≡ (if s == fault.signal then fault.value else Undef)
  at_fault s = rw found refl

  forced_there : force_at faults (suc k) fault.signal ≡ fault.value
  forced_there = at_fault fault.signal ∙ elim (eqb_tells fault.signal fault.signal) [
    | inl h ↦ ap (λ b. if b then fault.value else Undef) h.0
    | inr h ↦ absurd (h.1 refl)
  ]

  forced_free : (s : ℕ) → s ≢ fault.signal → force_at faults (suc k) s ≡ Undef
  forced_free s other = at_fault s ∙ elim (eqb_tells s fault.signal) [
    | inl h ↦ absurd (other h.1)
    | inr h ↦ ap (λ b. if b then fault.value else Undef) h.0
  ]

known_stuck : (v w : V4) → (v ≡ Zero) ⊎ (v ≡ One) → forced (stuck_value v) w ≡ v
known_stuck Zero w known = refl
known_stuck One w known = refl
known_stuck Undef w known = elim known [ inl h ↦ cc | inr h ↦ cc ]
known_stuck HighZ w known = elim known [ inl h ↦ cc | inr h ↦ cc ]

-- the runs of the lanes: that of the good design, and of each fault
module _ (net : Netlist) (timing : Timing) (stimulus : Stimulus) (faults : List Fault) (forces : Forces) (are_forces : AreForces net faults forces) (order : List ℕ) (is_order : IsOrder net timing order) where
  pub good_runs : RunsAs net timing stimulus (stuck_in forces 0) net
  good_runs = record {
    order = order;
    is_order = is_order;
    first = refl;
    steps = λ turn old new. free_step net timing stimulus (stuck_in forces 0) turn old new (λ s. are_forces.each 0 (omega arith) s);
  }

  module _ (k : ℕ) (fault : Fault) (at : slice_get faults k ≡ Some fault) (is : IsFault net fault) where
    low : suc k ≤ length faults
    low = omega (arith, slice_get_within faults k fault at)

    stuck_lane : (turn : ℕ) (old new : State) → IsForcedStep net timing stimulus (stuck_in forces (suc k)) turn old new → IsStuckStep net timing stimulus fault turn old new
    stuck_lane turn old new step = record {
      signals = step.signals;
      stuck = stuck_there (slice_get net.signals fault.signal) refl;
      others = λ s signal other there.
          step.values s signal there
          ∙ ap (λ h. forced h (driven net timing stimulus turn old new s signal.driver)) (are_forces.each (suc k) low s ∙ ap stuck_value (forced_free faults k fault at s other));
      memories = step.memories;
      words = step.words;
    } where
      stuck_there : (found : Option Signal) → slice_get net.signals fault.signal ≡ found → value_at new.row fault.signal ≡ fault.value
      stuck_there None none = absurd (within_some net.signals fault.signal is.signal none)
      stuck_there (Some signal) there =
          step.values fault.signal signal there
          ∙ (ap (λ h. forced h (driven net timing stimulus turn old new fault.signal signal.driver)) (are_forces.each (suc k) low fault.signal ∙ ap stuck_value (forced_there faults k fault at))
          ∙ known_stuck fault.value (driven net timing stimulus turn old new fault.signal signal.driver) is.value)

    pub faulty_runs : RunsAs net timing stimulus (stuck_in forces (k + 1)) (stuck net fault)
    faulty_runs = subst (λ l. RunsAs net timing stimulus (stuck_in forces l) (stuck net fault)) (omega arith) runs where
      runs : RunsAs net timing stimulus (stuck_in forces (suc k)) (stuck net fault)
      runs = record {
        order = order_for net fault order;
        is_order = order_serves net fault is timing order is_order;
        first = ap first (length-set net.signals fault.signal (stuck_signal net fault));
        steps = λ turn old new step. stuck_step net fault is timing stimulus turn old new (stuck_lane turn old new step);
      } where
        first : ℕ → State
        first signals = record { row = replicate signals Undef; words = (first_state net timing).words }
