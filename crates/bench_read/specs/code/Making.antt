-- How the netlist of a draft is made, line by line.
use Rattle.std.specs.Prelude.{ℕ, ◌+◌, ◌-◌, nat_lt, if◌then◌else◌, List, [], ◌∷◌, ◌++◌, map, length, take, drop, slice_index}
use Rattle.std.specs.List.{range_with_len}
use Rattle.net_defs.specs.declared.netlist.{Netlist.Netlist, Driver.Driver}
use Rattle.net_defs.specs.declared.netlist.Driver.TheVariants as driver
use Rattle.bench_read.specs.Lines.{used, Line, Input, Output, Gate, Register, Memory}
use Rattle.bench_read.specs.{declared.lines.DraftLine.DraftLine, Netlists.input_names, Netlists.other_names, Netlists.bit_signals, Placed.Placed}
use Rattle.bench_read.specs.declared.lines.DraftLine.TheVariants as draft_line

-- the line that a line of a draft is
abbrev pub seen : DraftLine → Line
seen (draft_line.Input name) = Input name.now
seen (draft_line.Output name) = Output name.now
seen (draft_line.Gate name kind uses) = Gate name.now kind (map (λ name. name.now) uses.now)
seen (draft_line.Register name use_) = Register name.now use_.now
seen (draft_line.Memory outs enable address words) =
    Memory (map (λ driver. driver.name.now) outs.now) enable.now (map (λ name. name.now) address.now) (map (λ name. name.now) words.now)

abbrev pub seen_at : (ℕ × DraftLine) → Placed
seen_at p = record { at = p.0; line = seen p.1 }

-- the number of the line that the use in this place stands in
unfoldable pub line_of_use : List Placed → ℕ → ℕ
line_of_use [] place = 0
line_of_use (placed ∷ lines) place =
    if nat_lt place (length (used placed.line)) then placed.at else line_of_use lines (place - length (used placed.line))

-- the numbers of the names that lines drive, in file order: those of inputs count from one number, the others from another
unfoldable pub order_by : ℕ → ℕ → List Line → List ℕ
order_by input other [] = []
order_by input other (line ∷ lines) =
    range_with_len input (length (input_names line))
    ++ (range_with_len other (length (other_names line))
    ++ order_by (input + length (input_names line)) (other + length (other_names line)) lines)

-- the netlist with a memory of so many address bits
abbrev pub with_memory : Netlist → List (List ℕ) → List ℕ → ℕ → Netlist
with_memory net outs uses address =
    record {
      signals = net.signals ++ bit_signals (length net.blocks) outs;
      printed = net.printed;
      blocks = net.blocks ++ record {
        we = slice_index uses 0;
        address = take address (drop 1 uses);
        word = drop address (drop 1 uses);
        outs = range_with_len (length net.signals) (length outs);
      } ∷ [];
    }

-- the netlist with one more signal
abbrev pub with_signal : Netlist → List ℕ → Driver → Netlist
with_signal net name driver =
    record { signals = net.signals ++ record { name = name; driver = driver } ∷ []; printed = net.printed; blocks = net.blocks }

-- the netlist with what a line makes beside an input, where these are the numbers of the names that it uses
abbrev pub with_line : Netlist → Line → List ℕ → Netlist
with_line net (Input name) uses = net
with_line net (Output name) uses = record { signals = net.signals; printed = net.printed ++ uses; blocks = net.blocks }
with_line net (Gate name kind names) uses = with_signal net name (driver.Gate kind uses)
with_line net (Register name use_) uses = with_signal net name (driver.Dff (slice_index uses 0))
with_line net (Memory outs enable address words) uses = with_memory net outs uses (length address)
