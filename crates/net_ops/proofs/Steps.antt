-- The phase of each turn, and a step of its phase as a step of the reference simulation.
use Rattle.std.proofs.Common.{◌≡◌, ◌≢◌, ◌∙◌, ℕ, ◌+◌, ◌-◌, ◌*◌, ◌/◌, ◌%◌, ◌<◌, ◌≤◌, inl, inr, Bool, true, false, if◌then◌else◌, ◌&&◌, ◌==◌, nat_le, List, [], get_or, refl, sym, ap, subst, arith, IsTrue, Option, None}
use Rattle.std.proofs.{Math.Numerals.add-one, lemmas.Bool.eqb-true, lemmas.Bool.Decides.eqb_tells, lemmas.Bool.Decides.leb_tells, Math.Nat.mul-le-mul_left}
use Rattle.std.proofs.lemmas.Nat.{mod-mul-add, div-mul-add}
use Rattle.logic_four.specs.declared.V4.{V4}
use Rattle.net_defs.specs.declared.netlist.Driver.TheVariants.{Input, Gate, Dff, BlockBit}
use Rattle.net_defs.specs.Time.{value_at, is_edge, cycle_of, cycle_rows, input_at}
use Rattle.net_defs.specs.declared.{netlist.Netlist.Netlist, netlist.Driver.Driver, timing.Timing.Timing, stimulus.Stimulus.Stimulus}
use Rattle.net_defs.specs.{Valid.is_input, Steps.State, Steps.driven, Steps.IsRightStep}
use Rattle.net_ops.specs.code.States.{by_phase, driven_by, phase_at, phase_of, words_by_phase, HasHeld, StepsBy}
use Rattle.net_ops.specs.{declared.step.Phase.Phase, Lanes.forced, States.IsForcedStep, States.Passes}
use Rattle.net_ops.specs.declared.step.Phase.TheVariants as phase
use Rattle.net_ops.proofs.OpLemmas.{forced_twice}

-- a choice by the phase is the choice by the turn
module _ (timing : Timing) (turn : ℕ) where
  by_turn : (first edge : Bool) (initial new kept : V4) → by_phase (if first then phase.Start else if edge then phase.Edge else phase.Within) initial new kept ≡ (if first then initial else if edge then new else kept)
  by_turn first edge initial new kept = grind arith

  words_by_turn : (first edge : Bool) (new kept : List (List V4)) → (first ≡ true → edge ≡ false) → words_by_phase (if first then phase.Start else if edge then phase.Edge else phase.Within) new kept ≡ (if edge then new else kept)
  words_by_turn first edge new kept apart = grind arith

  -- turn 1 is no edge
  start_no_edge : (turn == 1) ≡ true → is_edge timing.units turn ≡ false
  start_no_edge first = let one : turn ≡ 1 = eqb-true turn 1 first in rw one refl

module _ (net : Netlist) (timing : Timing) (stimulus : Stimulus) (stuck : ℕ → Option V4) (turn : ℕ) (inputs : List V4) (old new : State)
    (given : (s : ℕ) → value_at inputs s ≡ input_at timing stimulus turn s)
    (steps : StepsBy net timing stuck (phase_of timing.units turn) inputs old new) where
  by_driver : (s : ℕ) (driver : Driver) → driven_by net timing (phase_of timing.units turn) inputs old new s driver ≡ driven net timing stimulus turn old new s driver
  by_driver s Input = given s
  by_driver s (Gate kind ops) = refl
  by_driver s (Dff op) = by_turn timing turn (turn == 1) (is_edge timing.units turn) _ _ _
  by_driver s (BlockBit memory bit) = by_turn timing turn (turn == 1) (is_edge timing.units turn) _ _ _

  forced_step : IsForcedStep net timing stimulus stuck turn old new
  forced_step = record {
    signals = steps.signals;
    values = λ s signal is. steps.values s signal is ∙ ap (forced (stuck s)) (by_driver s signal.driver);
    memories = steps.memories;
    words = λ m memory is. steps.words m memory is ∙ words_by_turn timing turn (turn == 1) (is_edge timing.units turn) _ _ (start_no_edge timing turn);
  }

-- what a step holds
pub step_held : (net : Netlist) (timing : Timing) (stuck : ℕ → Option V4) (at : Phase) (inputs : List V4) (old new : State) → StepsBy net timing stuck at inputs old new → HasHeld net stuck inputs new.row
step_held net timing stuck at inputs old new steps = record {
  inputs_held = λ s signal is input. steps.values s signal is ∙ ap (forced (stuck s)) (by_driver s signal.driver input);
  stuck_held = λ s signal is. steps.values s signal is ∙ (sym (forced_twice (stuck s) (λ v. v) (driven_by net timing at inputs old new s signal.driver)) ∙ ap (forced (stuck s)) (sym (steps.values s signal is)));
} where
  by_driver : (s : ℕ) (driver : Driver) → IsTrue (is_input driver) → driven_by net timing at inputs old new s driver ≡ value_at inputs s
  by_driver s driver input = grind arith

-- a turn within a cycle is not the first of it
pub within_later : (is_first : Bool) (place : ℕ) (at : Phase) → at ≡ phase_at is_first place → at ≡ phase.Within → 0 < place
within_later is_first place at is within = elim (eqb_tells place 0) [
  | inl none ↦ absurd (first is_first (sym (ap (λ b. if b then (if is_first then phase.Start else phase.Edge) else phase.Within) none.0) ∙ (sym is ∙ within)))
  | inr some ↦ (let other = some.1 in omega arith)
] where
  first : (b : Bool) → (if b then phase.Start else phase.Edge) ≡ phase.Within → ⊥
  first b same = grind arith

module _ (units cycle place : ℕ) (inside : place < units) where
  within_cycle : (cycle * units + place + 1 - 1) % units ≡ place
  within_cycle = ap (λ n. n % units) (omega arith) ∙ mod-mul-add cycle units place inside

  number_of_cycle : cycle_of units (cycle * units + place + 1) ≡ cycle + 1
  number_of_cycle = ap (λ n. n / units + 1) (omega arith) ∙ ap (λ n. n + 1) (div-mul-add cycle units place inside)

  phase_start : cycle ≡ 0 → place ≡ 0 → phase_of units (cycle * units + place + 1) ≡ phase.Start
  phase_start no_cycle no_place = let one : cycle * units + place + 1 ≡ 1 = rw (no_cycle, no_place) (omega arith) in rw one refl

  turn_not_one : 0 < cycle * units + place → ((cycle * units + place + 1) == 1) ≡ false
  turn_not_one later = elim (eqb_tells (cycle * units + place + 1) 1) [ inl h ↦ absurd (omega arith) | inr h ↦ h.0 ]

  two_le : 0 < cycle * units + place → nat_le 2 (cycle * units + place + 1) ≡ true
  two_le later = elim (leb_tells 2 (cycle * units + place + 1)) [ inl h ↦ h.0 | inr h ↦ absurd (omega arith) ]

  phase_later : 0 < cycle * units + place → phase_of units (cycle * units + place + 1) ≡ (if place == 0 then phase.Edge else phase.Within)
  phase_later later =
      ap (λ b. if b then phase.Start else if is_edge units (cycle * units + place + 1) then phase.Edge else phase.Within) (turn_not_one later)
      ∙ (ap (λ b. if b && ((cycle * units + place + 1 - 1) % units == 0) then phase.Edge else phase.Within) (two_le later)
      ∙ ap (λ n. if n == 0 then phase.Edge else phase.Within) within_cycle)

  phase_here : (is_first : Bool) → is_first ≡ (cycle == 0) → phase_of units (cycle * units + place + 1) ≡ phase_at is_first place
  phase_here is_first first = elim (eqb_tells place 0) [
    | inl no_place ↦ elim (eqb_tells cycle 0) [
      | inl no_cycle ↦ phase_start no_cycle.1 no_place.1
          ∙ (sym (ap (λ b. if b then phase.Start else phase.Edge) (first ∙ no_cycle.0)) ∙ sym (ap (λ b. if b then (if is_first then phase.Start else phase.Edge) else phase.Within) no_place.0))
      | inr some_cycle ↦ phase_later (let product = mul-le-mul_left units (positive cycle some_cycle.1) in omega (arith, product))
          ∙ (ap (λ b. if b then phase.Edge else phase.Within) no_place.0
          ∙ (sym (ap (λ b. if b then phase.Start else phase.Edge) (first ∙ some_cycle.0)) ∙ sym (ap (λ b. if b then (if is_first then phase.Start else phase.Edge) else phase.Within) no_place.0)))
    ]
    | inr some_place ↦ phase_later (let more = positive place some_place.1 in omega arith)
        ∙ (ap (λ b. if b then phase.Edge else phase.Within) some_place.0 ∙ sym (ap (λ b. if b then (if is_first then phase.Start else phase.Edge) else phase.Within) some_place.0))
  ] where
    positive : (n : ℕ) → n ≢ 0 → 1 ≤ n
    positive n some = omega arith

-- one turn more of a cycle
pub passes_more : (net : Netlist) (timing : Timing) (stimulus : Stimulus) (stuck : ℕ → Option V4) (is_first : Bool) (cycle place : ℕ) (values : List V4) (at : Phase) (start old new : State)
    → is_first ≡ (cycle == 0) → get_or (cycle_rows stimulus) cycle [] ≡ values → place < timing.units → at ≡ phase_at is_first place → StepsBy net timing stuck at values old new
    → Passes net timing stimulus stuck (cycle * timing.units) place start old → Passes net timing stimulus stuck (cycle * timing.units) (place + 1) start new
passes_more net timing stimulus stuck is_first cycle place values at start old new first row inside is_at steps passes =
    let phase_is : at ≡ phase_of timing.units (cycle * timing.units + place + 1) = is_at ∙ sym (phase_here timing.units cycle place inside is_first first) in
    let by_turn = subst (λ p. StepsBy net timing stuck p values old new) phase_is steps in
    let given : (s : ℕ) → value_at values s ≡ input_at timing stimulus (cycle * timing.units + place + 1) s = λ s.
    let number : cycle ≡ cycle_of timing.units (cycle * timing.units + place + 1) - 1 = omega (arith, number_of_cycle timing.units cycle place inside) in
    ap (λ r. value_at r s) (sym row) ∙ ap (λ n. value_at (get_or (cycle_rows stimulus) n []) s) number in
    let right = forced_step net timing stimulus stuck (cycle * timing.units + place + 1) values old new given by_turn in
    rw add-one (old, passes, right)

-- where nothing is stuck, a step is right
pub free_step : (net : Netlist) (timing : Timing) (stimulus : Stimulus) (stuck : ℕ → Option V4) (turn : ℕ) (old new : State) → ((s : ℕ) → stuck s ≡ None) → IsForcedStep net timing stimulus stuck turn old new → IsRightStep net timing stimulus turn old new
free_step net timing stimulus stuck turn old new free step = record {
  signals = step.signals;
  values = λ s signal is. step.values s signal is ∙ ap (λ h. forced h (driven net timing stimulus turn old new s signal.driver)) (free s);
  memories = step.memories;
  words = step.words;
}
