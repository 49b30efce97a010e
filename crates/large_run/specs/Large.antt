-- The large netlist of so many gates and the rows of its stimulus, draw by draw.
use Rattle.std.specs.Prelude.{ℕ, zero, suc, ◌+◌, ◌-◌, ◌*◌, ◌%◌, ◌==◌, nat_le, min, if◌then◌else◌, List, [], ◌∷◌, ◌++◌, map, Option, Some, None, slice_get, slice_index, codes, decimal}
use Rattle.std.specs.List.{range_with_len}
use Rattle.logic_four.specs.declared.Kind.TheVariants.{And, Nand, Or, Nor, Xor, Not, Buf}
use Rattle.logic_four.specs.declared.{V4.V4, V4.TheVariants.Zero, V4.TheVariants.One, Kind.Kind}
use Rattle.net_defs.specs.declared.netlist.{Netlist.Netlist, Signal.Signal, Driver.Driver}
use Rattle.net_defs.specs.declared.{netlist.Driver.TheVariants.Input, netlist.Driver.TheVariants.Gate, netlist.Driver.TheVariants.Dff, stimulus.StimRow.StimRow}
use Rattle.net_defs.specs.declared.stimulus.Stimulus.{Stimulus}
use Rattle.large_run.specs.Draws.{draw}

-- ---- a gate, drawn from a state on

-- the first draw gives the kind: one of these, and past them a register
abbrev pub kind_number : ℕ → ℕ
kind_number state = draw state 1 % 8

abbrev pub kind_at : ℕ → Option Kind
kind_at number = slice_get (And ∷ Nand ∷ Or ∷ Nor ∷ Xor ∷ Not ∷ Buf ∷ []) number

-- the first five kinds have 2 to 4 operands, by a second draw, and the others have one
unfoldable pub operand_count : ℕ → ℕ
operand_count state = if nat_le (kind_number state) 4 then 2 + draw state 2 % 3 else 1

-- the draws before those of the operands
unfoldable pub head_count : ℕ → ℕ
head_count state = if nat_le (kind_number state) 4 then 2 else 1

-- each operand of gate j is drawn from the 8 inputs and the j gates before it, in signal order
unfoldable pub operands : ℕ → ℕ → ℕ → List ℕ
operands state j count = map (λ i. draw state (i + 1) % (8 + j)) (range_with_len 0 count)

-- a gate of this kind with these operands, or a register of the first of them
abbrev pub driver_by : Option Kind → List ℕ → Driver
driver_by (Some kind) ops = Gate kind ops
driver_by None ops = Dff (slice_index ops 0)

-- what drives gate j
unfoldable pub gate_driver : ℕ → ℕ → Driver
gate_driver state j = driver_by (kind_at (kind_number state)) (operands (draw state (head_count state)) j (operand_count state))

-- how many draws a gate takes
abbrev pub gate_draws : ℕ → ℕ
gate_draws state = head_count state + operand_count state

-- the state before gate j: that after all draws of the gates before it, from state 1 on
unfoldable pub gate_state : ℕ → ℕ
gate_state zero = 1
gate_state (suc j) = draw (gate_state j) (gate_draws (gate_state j))

-- ---- the netlist

-- `i0` to `i7`
abbrev pub input_signal : ℕ → Signal
input_signal i = record { name = codes "i" ++ decimal i; driver = Input }

-- `g0` and so on
abbrev pub gate_signal : ℕ → Signal
gate_signal j = record { name = codes "g" ++ decimal j; driver = gate_driver (gate_state j) j }

-- the inputs and then the gates
unfoldable pub large_signals : ℕ → List Signal
large_signals gates = map input_signal (range_with_len 0 8) ++ map gate_signal (range_with_len 0 gates)

-- the signals of the last 8 gates, or of all if there are fewer
unfoldable pub large_printed : ℕ → List ℕ
large_printed gates = map (λ j. 8 + j) (range_with_len (gates - 8) (min gates 8))

abbrev pub large_netlist : ℕ → Netlist
large_netlist gates = record { signals = large_signals gates; printed = large_printed gates; blocks = [] }

-- ---- the stimulus

-- an even draw is 0, an odd one 1
abbrev pub drawn_value : ℕ → V4
drawn_value number = if number % 2 == 0 then Zero else One

-- the values of so many draws from a state on; a row has 8, for one cycle
unfoldable pub drawn_values : ℕ → ℕ → List V4
drawn_values state count = map (λ i. drawn_value (draw state (i + 1))) (range_with_len 0 count)

abbrev pub drawn_row : ℕ → StimRow
drawn_row state = record { values = drawn_values state 8; times = 1 }

-- so many rows, one after the other, from a state on
abbrev pub large_stimulus : ℕ → ℕ → Stimulus
large_stimulus state cycles = record { columns = 8; rows = map (λ c. drawn_row (draw state (8 * c))) (range_with_len 0 cycles) }
