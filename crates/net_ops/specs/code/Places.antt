-- Beside specs/Places.antt, what only private functions and proofs cite.
use Rattle.std.specs.Prelude.{List, length, take, drop}
use Rattle.net_defs.specs.declared.netlist.Netlist.{Netlist}

-- the values of the last turn
abbrev pub last_row : {X : Type 0} → Netlist → List X → List X
last_row net values = take (length net.signals) (drop (length net.signals) values)
