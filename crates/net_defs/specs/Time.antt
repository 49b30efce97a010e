-- Turns and cycles, and what the inputs have. Turns are counted from 1, and turn 0 is before them.
use Rattle.std.specs.Prelude.{ℕ, ◌+◌, ◌-◌, ◌*◌, ◌/◌, ◌%◌, ◌==◌, ◌&&◌, Bool, nat_le, List, [], length, slice_index_or, replicate}
use Rattle.std.specs.List.{flat_map}
use Rattle.logic_four.specs.declared.V4.{V4, TheVariants.Undef, TheVariants.Zero}
pub use Rattle.logic_four.specs.Values.{value_at}
use Rattle.net_defs.specs.declared.{timing.Timing.Timing, timing.Init.Init, stimulus.Stimulus.Stimulus}
use Rattle.net_defs.specs.declared.timing.Init.TheVariants as init

-- the cycle of a turn from 1 on: a cycle is so many turns
abbrev pub cycle_of : ℕ → ℕ → ℕ
cycle_of units turn = (turn - 1) / units + 1

-- an edge is the first turn of a cycle other than turn 1
abbrev pub is_edge : ℕ → ℕ → Bool
is_edge units turn = nat_le 2 turn && ((turn - 1) % units == 0)

-- what registers and memories hold at first
abbrev pub initial_value : Init → V4
initial_value init.Undef = Undef
initial_value init.Zero = Zero

-- the rows of a stimulus with their repeats written out: one for each cycle
abbrev pub cycle_rows : Stimulus → List (List V4)
cycle_rows stimulus = flat_map (λ row. replicate row.times row.values) stimulus.rows

-- the number of cycles
abbrev pub cycle_count : Stimulus → ℕ
cycle_count stimulus = length (cycle_rows stimulus)

-- the number of turns
abbrev pub turn_count : Timing → Stimulus → ℕ
turn_count timing stimulus = timing.units * cycle_count stimulus

-- an input has the value of its cycle's row in all turns of the cycle
abbrev pub input_at : Timing → Stimulus → ℕ → ℕ → V4
input_at timing stimulus turn column =
    value_at (slice_index_or (cycle_rows stimulus) (cycle_of timing.units turn - 1) []) column
