-- The lines of the verdicts on stuck faults of a netlist.
use Rattle.std.specs.Prelude.{ℕ, Bool, true, false, List, [], ◌∷◌, ◌++◌, length, map, count_by, Option, Some, None, slice_get, codes, decimal}
use Rattle.std.specs.List.{zip}
use Rattle.logic_four.specs.declared.V4.TheVariants.{Zero, One, Undef, HighZ}
use Rattle.logic_four.specs.declared.V4.{V4}
use Rattle.net_defs.specs.{declared.faults.Fault.Fault, declared.netlist.Netlist.Netlist, Canonical.name_of}
use Rattle.fault_sim.specs.declared.faults.Verdict.{Verdict, TheVariants.Seen, TheVariants.Unseen}

-- the printed name of a column, counted from 0
abbrev pub column_name : Netlist → ℕ → List ℕ
column_name net column = of_signal (slice_get net.printed column) where
  of_signal : Option ℕ → List ℕ
  of_signal None = []
  of_signal (Some s) = name_of net s

-- where a fault is first seen: the cycle and the name of the column, or `-`
abbrev pub place_words : Netlist → Verdict → List ℕ
place_words net (Seen cycle column) = decimal cycle ++ codes " " ++ column_name net column
place_words net Unseen = codes "-"

-- the digit at which a signal is stuck
abbrev pub stuck_digit : V4 → List ℕ
stuck_digit Zero = codes "0"
stuck_digit One = codes "1"
stuck_digit Undef = codes "0"
stuck_digit HighZ = codes "0"

-- the line of the verdict on a fault: the signal's name, where it is stuck, and where that is first seen
unfoldable pub verdict_line : Netlist → Fault → Verdict → List ℕ
verdict_line net fault verdict = name_of net fault.signal ++ codes " " ++ stuck_digit fault.value ++ codes " " ++ place_words net verdict ++ codes "\n"

-- how many faults are seen, and how many there are
unfoldable pub detected_line : ℕ → ℕ → List ℕ
detected_line seen all = codes "detected " ++ decimal seen ++ codes " of " ++ decimal all ++ codes "\n"

abbrev pub is_detected : Verdict → Bool
is_detected (Seen cycle column) = true
is_detected Unseen = false

-- a line for each of these faults, and a last one on how many are seen
abbrev pub fault_lines : Netlist → List Fault → List Verdict → List (List ℕ)
fault_lines net faults verdicts = map (λ p. verdict_line net p.0 p.1) (zip faults verdicts) ++ detected_line (count_by is_detected verdicts) (length verdicts) ∷ []
