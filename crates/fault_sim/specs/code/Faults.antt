-- Beside specs/Faults.antt, what only private functions and proofs cite.
use Rattle.std.specs.Prelude.{ℕ, List, ◌∷◌, if◌then◌else◌}
use Rattle.net_defs.specs.{declared.netlist.Netlist.Netlist, Loops.is_gate, declared.faults.Fault.Fault}

-- an order of the gates of the faulty netlist: the stuck signal counts as a gate there, one that waits
-- for nothing
abbrev pub order_for : Netlist → Fault → List ℕ → List ℕ
order_for net fault order = if is_gate net fault.signal then order else fault.signal ∷ order
