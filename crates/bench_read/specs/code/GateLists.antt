-- Beside specs/GateLists.antt, what only private functions and proofs cite.
use Rattle.std.specs.Prelude.{ℕ, Bool, false, List, length, filter, slice_index_or}
use Rattle.std.specs.List.{range_with_len}
use Rattle.net_defs.specs.declared.netlist.Netlist.{Netlist}
use Rattle.bench_read.specs.code.Once.{AreMarksOf}

-- one mark for each signal, which is set where the signal is among these
abbrev pub AreMarks : Netlist → List ℕ → List Bool → Type 0
AreMarks net named marks = AreMarksOf (λ s. s) (length net.signals) named marks

-- the places whose marks are set, in order
abbrev pub marked : List Bool → List ℕ
marked marks = filter (λ s. slice_index_or marks s false) (range_with_len 0 (length marks))
