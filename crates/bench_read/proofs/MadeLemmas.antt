-- The names and operands of what lines make.
use Rattle.std.proofs.Common.{◌≡◌, ℕ, ◌+◌, ◌≤◌, List, [], ◌∷◌, ◌++◌, length, map, ap, refl, arith}
use Rattle.std.proofs.lemmas.List.{map-append, map-id, length-map, length-append}
use Rattle.bench_read.proofs.Common.{sum_by, flat_map, enumerate_from, map-map, sum_by-append, sum_by-cons, Signal, Block}
use Rattle.list_laws.proofs.Maps.{sum_none_of}
use Rattle.net_defs.specs.declared.netlist.Driver.TheVariants as driver
use Rattle.net_defs.specs.Valid.{operand_count as driver_operands, memory_operand_count}
use Rattle.bench_read.specs.Lines.{Line, Memory, operands, operand_count}
use Rattle.bench_read.specs.Netlists.{input_names, other_names, names_of, netlist_of, input_signal, signals_by, memory_count, other_signals, memories_by}

-- ---- names

-- the names of signals
abbrev pub names_from : List Signal → List (List ℕ)
names_from signals = map (λ (s : Signal). s.name) signals

bit_names : (m n : ℕ) (outs : List (List ℕ)) → names_from (map (λ p. record { name = p.1; driver = driver.BlockBit m p.0 }) (enumerate_from n outs)) ≡ outs
bit_names m n [] = refl
bit_names m n (name ∷ outs) = ap (λ ns. name ∷ ns) (bit_names m (n + 1) outs)

-- the signals of a line have the names that it drives beside inputs
pub line_names : (names : List (List ℕ)) (m : ℕ) (line : Line) → names_from (signals_by names m line) ≡ other_names line
line_names names m (Memory outs enable address words) = bit_names m 0 outs
line_names names m line = refl

pub others_names : (names : List (List ℕ)) (m : ℕ) (lines : List Line) → names_from (other_signals names m lines) ≡ flat_map other_names lines
unfolding other_signals
others_names names m [] = refl
others_names names m (line ∷ lines) = simp (map-append, line_names, others_names names (m + memory_count line) lines) refl

-- the names of the signals that lines make are the driven names in signal order
pub made_names : (names : List (List ℕ)) (m : ℕ) (lines : List Line) → names_from (map input_signal (flat_map input_names lines) ++ other_signals names m lines) ≡ names_of lines
unfolding names_of
made_names names m lines = simp (map-append, map-map, map-id, others_names) refl

pub signal_names : (lines : List Line) → names_from (netlist_of lines).signals ≡ names_of lines
unfolding netlist_of
signal_names lines = made_names (names_of lines) 0 lines

-- ---- operands

abbrev pub signal_operands : Signal → ℕ
signal_operands signal = driver_operands signal.driver

line_operands : (names : List (List ℕ)) (m : ℕ) (line : Line) → length (operands line) ≡ sum_by signal_operands (signals_by names m line) + sum_by memory_operand_count (memories_by names line)
line_operands names m (Memory outs enable address words) =
    let none = sum_none_of signal_operands (λ p. record { name = p.1; driver = driver.BlockBit m p.0 }) (enumerate_from 0 outs) (λ p. refl) in
    simp (length-map, length-append) (omega (arith, none))
line_operands names m line = omega (arith, length-map {A = List ℕ} {B = ℕ})

lines_operands : (names : List (List ℕ)) (m : ℕ) (lines : List Line)
    → operand_count lines ≡ sum_by signal_operands (other_signals names m lines) + sum_by memory_operand_count (flat_map (memories_by names) lines)
unfolding operand_count other_signals
lines_operands names m [] = refl
lines_operands names m (line ∷ lines) =
    simp sum_by-append (omega (arith, lines_operands names (m + memory_count line) lines, line_operands names m line, sum_by-cons (λ l. length (operands l)) line lines))

-- the operands of lines are those of the netlist that they make
pub made_operands : (lines : List Line) → operand_count lines ≡ sum_by signal_operands (netlist_of lines).signals + sum_by memory_operand_count (netlist_of lines).blocks
unfolding netlist_of
made_operands lines =
    simp sum_by-append (omega (arith, lines_operands (names_of lines) 0 lines, sum_none_of signal_operands input_signal (flat_map input_names lines) (λ name. refl)))

-- each memory has operands
pub memories-le : (memories : List Block) → length memories ≤ sum_by memory_operand_count memories
memories-le [] = omega arith
memories-le (memory ∷ memories) = omega (arith, memories-le memories, sum_by-cons memory_operand_count memory memories)
