-- The faulty netlist, signal by signal, and its steps.
use Rattle.std.proofs.Common.{◌≡◌, ◌≢◌, ◌∙◌, ◌⊎◌, inl, inr, ℕ, length, refl, sym, ap, Some}
use Rattle.std.proofs.lemmas.{Bool.Decides.eqb_tells, List.length-set}
use Rattle.std.specs.List.{slice_get}
use Rattle.list_laws.proofs.{Places.one_there, Members.set_same, Members.set_other}
use Rattle.logic_four.specs.declared.V4.TheVariants.{Zero, One, Undef, HighZ}
use Rattle.logic_four.specs.declared.V4.{V4}
use Rattle.net_defs.specs.declared.netlist.Driver.TheVariants.{Input, Gate, Dff, BlockBit}
use Rattle.net_defs.specs.declared.{netlist.Netlist.Netlist, netlist.Signal.Signal, netlist.Driver.Driver, timing.Timing.Timing, stimulus.Stimulus.Stimulus}
use Rattle.net_defs.specs.{Time.value_at, Canonical.name_of, Steps.State, Steps.driven, Steps.IsRightStep, declared.faults.Fault.Fault}
use Rattle.fault_sim.specs.Faults.{constant, stuck, IsFault, IsStuckStep}

-- the signal with its new driver
abbrev pub stuck_signal : Netlist → Fault → Signal
stuck_signal net fault = record { name = name_of net fault.signal; driver = constant fault.value }

-- what a constant gives
pub constant_gives : (net : Netlist) (timing : Timing) (stimulus : Stimulus) (turn : ℕ) (old new : State) (s : ℕ) (v : V4) → (v ≡ Zero) ⊎ (v ≡ One) → driven net timing stimulus turn old new s (constant v) ≡ v
constant_gives net timing stimulus turn old new s Zero known = refl
constant_gives net timing stimulus turn old new s One known = refl
constant_gives net timing stimulus turn old new s Undef known = elim known [ inl h ↦ cc | inr h ↦ cc ]
constant_gives net timing stimulus turn old new s HighZ known = elim known [ inl h ↦ cc | inr h ↦ cc ]

module _ (net : Netlist) (fault : Fault) (is : IsFault net fault) where
  pub stuck_here : slice_get (stuck net fault).signals fault.signal ≡ Some (stuck_signal net fault)
  stuck_here = set_same net.signals fault.signal (stuck_signal net fault) is.signal

  pub stuck_else : (s : ℕ) → s ≢ fault.signal → slice_get (stuck net fault).signals s ≡ slice_get net.signals s
  stuck_else s other = set_other net.signals fault.signal s (stuck_signal net fault) other

  pub stuck_long : length (stuck net fault).signals ≡ length net.signals
  stuck_long = length-set net.signals fault.signal (stuck_signal net fault)

  module _ (timing : Timing) (stimulus : Stimulus) (turn : ℕ) (old new : State) where
    -- every other driver gives what it gave
    same_driven : (s : ℕ) (driver : Driver) → driven (stuck net fault) timing stimulus turn old new s driver ≡ driven net timing stimulus turn old new s driver
    same_driven s Input = refl
    same_driven s (Gate kind ops) = refl
    same_driven s (Dff op) = refl
    same_driven s (BlockBit memory bit) = refl

    pub step_stuck : IsRightStep (stuck net fault) timing stimulus turn old new → IsStuckStep net timing stimulus fault turn old new
    step_stuck right = record {
      signals = right.signals ∙ stuck_long;
      stuck = right.values fault.signal (stuck_signal net fault) stuck_here ∙ constant_gives (stuck net fault) timing stimulus turn old new fault.signal fault.value is.value;
      others = λ s signal other at. right.values s signal (stuck_else s other ∙ at) ∙ same_driven s signal.driver;
      memories = right.memories;
      words = right.words;
    }

    pub stuck_step : IsStuckStep net timing stimulus fault turn old new → IsRightStep (stuck net fault) timing stimulus turn old new
    stuck_step step = record {
      signals = step.signals ∙ sym stuck_long;
      values = λ s signal at. elim (eqb_tells s fault.signal) [
        | inl h ↦
            let same : signal ≡ stuck_signal net fault = one_there (stuck net fault).signals s fault.signal signal (stuck_signal net fault) h.1 at stuck_here in
            ap (value_at new.row) h.1 ∙ (step.stuck ∙ (sym (constant_gives (stuck net fault) timing stimulus turn old new s fault.value is.value)
            ∙ ap (λ it. driven (stuck net fault) timing stimulus turn old new s it.driver) (sym same)))
        | inr h ↦ step.others s signal h.1 (sym (stuck_else s h.1) ∙ at) ∙ sym (same_driven s signal.driver)
      ];
      memories = step.memories;
      words = step.words;
    }
