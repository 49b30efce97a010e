-- The places of a row: the values of this turn come first, signal by signal, and then those of the last one.
use Rattle.std.specs.Prelude.{ℕ, ◌+◌, List, length, take}
use Rattle.net_defs.specs.declared.netlist.Netlist.{Netlist}

abbrev pub place_count : Netlist → ℕ
place_count net = length net.signals + length net.signals

-- the values of this turn
abbrev pub row_of : {X : Type 0} → Netlist → List X → List X
row_of net values = take (length net.signals) values
