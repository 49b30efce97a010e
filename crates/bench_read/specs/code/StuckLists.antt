-- Beside specs/StuckLists.antt, what only private functions and proofs cite.
use Rattle.std.specs.Prelude.{◌+◌, Bool, List, length}
use Rattle.net_defs.specs.declared.{faults.Fault.Fault, netlist.Netlist.Netlist}
use Rattle.bench_read.specs.{StuckLists.number_of, code.Once.AreMarksOf}

-- one mark for each stuck fault of the netlist, which is set where the fault is among these
abbrev pub AreStuckMarks : Netlist → List Fault → List Bool → Type 0
AreStuckMarks net named marks = AreMarksOf number_of (length net.signals + length net.signals) named marks
