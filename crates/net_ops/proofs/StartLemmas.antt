-- The state before the first turn, lane by lane.
use Rattle.std.proofs.Common.{◌≡◌, ◌∙◌, ℕ, zero, suc, ◌<◌, List, [], ◌∷◌, length, replicate, get_or, refl, ap, ap₂, arith}
use Rattle.std.proofs.lemmas.List.{length-map, get_or-map, get_or-replicate, take-replicate}
use Rattle.std.proofs.lemmas.Option.{slice_get_within, get_or_from_slice_get}
use Rattle.logic_four.specs.{declared.V4.V4, declared.V4.TheVariants.Undef, Memory.initial_words}
use Rattle.logic_four.proofs.lemmas.MemoryLemmas.{first_shape}
use Rattle.net_defs.specs.{declared.netlist.Netlist.Netlist, declared.timing.Timing.Timing, Time.initial_value, Steps.first_state}
use Rattle.net_ops.specs.{declared.state.LaneState.LaneState, Lanes.lane_row, Places.place_count, Places.row_of, States.lane_state, States.AreShaped}
use Rattle.net_ops.specs.code.States.{initial_memories}

module _ {W : Type 0} (lane : W → ℕ → V4) where
  undefined_row : (w : W) (n l : ℕ) → lane w l ≡ Undef → lane_row lane l (replicate n w) ≡ replicate n Undef
  undefined_row w zero l is = refl
  undefined_row w (suc n) l is = ap₂ (λ v rest. v ∷ rest) is (undefined_row w n l is)

  pub first_lane : (net : Netlist) (timing : Timing) (l lanes count : ℕ) (state : LaneState W) (w : W) (v : V4) → state.values ≡ replicate count w → count ≡ place_count net → lane w l ≡ Undef
      → state.memories ≡ replicate lanes (initial_memories net v) → v ≡ initial_value timing.init → l < lanes → lane_state lane net l state ≡ first_state net timing
  first_lane net timing l lanes count state w v values places undefined memories initial low =
      ap (λ values. record { row = row_of net (lane_row lane l values); words = get_or state.memories l [] }) values
      ∙ (ap (λ row. record { row = row_of net row; words = get_or state.memories l [] }) (undefined_row w count l undefined)
      ∙ (ap (λ row. record { row = row; words = get_or state.memories l [] }) (take-replicate (length net.signals) count Undef (omega (arith, places)))
      ∙ (ap (λ memories. record { row = replicate (length net.signals) Undef; words = get_or memories l [] }) memories
      ∙ (ap (λ words. record { row = replicate (length net.signals) Undef; words = words }) (get_or-replicate lanes l (initial_memories net v) [] low)
      ∙ ap (λ v. record { row = replicate (length net.signals) Undef; words = initial_memories net v }) initial))))

-- the first words stand in their shapes
first_shaped : (net : Netlist) (v : V4) → AreShaped net (initial_memories net v)
first_shaped net v = record {
  memories = length-map net.blocks (λ memory. initial_words (length memory.address) (length memory.word) v);
  shape = λ m memory there.
      let read : get_or (initial_memories net v) m [] ≡ initial_words (length memory.address) (length memory.word) v =
      get_or-map (λ memory. initial_words (length memory.address) (length memory.word) v) net.blocks m memory [] (slice_get_within net.blocks m memory there)
      ∙ ap (λ block. initial_words (length block.address) (length block.word) v) (get_or_from_slice_get net.blocks m memory memory there) in
      rw read (first_shape (length memory.address) (length memory.word) v);
}

pub shaped_there : (net : Netlist) (v : V4) (lanes l : ℕ) (memories : List (List (List (List V4)))) → memories ≡ replicate lanes (initial_memories net v) → l < lanes → AreShaped net (get_or memories l [])
shaped_there net v lanes l memories is low = rw (is, get_or-replicate lanes l (initial_memories net v) [] low) (first_shaped net v)
