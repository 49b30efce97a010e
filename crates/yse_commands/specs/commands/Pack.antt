-- `pack`: the traces of up to 30 simulations, by one run of the compiled machine. The cells of all cycles are kept, and
-- each lane has its own content of each memory, so both have a limit.
use Rattle.std.specs.Prelude.{◌≡◌, ℕ, ◌+◌, List, [], ◌∷◌, ◌++◌, Some}
use Rattle.trace_text.specs.Lines.{lane_line}
use Rattle.net_defs.specs.{declared.netlist.Netlist.Netlist, declared.stimulus.Stimulus.Stimulus, declared.timing.Timing.Timing, Trace.IsTrace}
use Rattle.stim_text.specs.declared.lanes.Lanes.{Lanes}
use Rattle.cmd_words.specs.declared.command.RunWords.{RunWords}
use Rattle.call_steps.specs.Checks.{HasFewBits, HasFewLaneCells, WritesTold}
use Rattle.yse_commands.specs.Told.{lanes_turns}
use Rattle.call_steps.specs.{FileSteps.LanesIn, FileSteps.PlacedOnMachine, Steps.◌>>=◌, Steps.◌>>◌, Steps.Call, Steps.Checks, Steps.Ends}

-- for each lane after the first n the line with its number, and then the trace of the lane's own stimulus
abbrev pub AreTracesAfter : Netlist → Timing → ℕ → List Stimulus → List ℕ → Type 0
AreTracesAfter net timing n [] output = output ≡ []
AreTracesAfter net timing n (stimulus ∷ lanes) output =
    (trace : List ℕ) × (others : List ℕ) × IsTrace net timing stimulus trace × AreTracesAfter net timing (n + 1) lanes others
    × (output ≡ (lane_line (n + 1) ++ trace) ++ others)

-- the output is the traces of all lanes, counted from 1
abbrev pub AreLaneTraces : Netlist → Timing → Lanes → List ℕ → Type 0
AreLaneTraces net timing lanes = AreTracesAfter net timing 0 lanes.lanes

-- the design on its machine, the bits of its memories, the lanes, their cells, and then the traces of the lanes
abbrev pub Packs : RunWords → Call
Packs words = do
  design ← PlacedOnMachine words
  Checks (HasFewBits design.net)
  lanes ← LanesIn words.stimulus design.net
  Checks (HasFewLaneCells design.net lanes)
  Ends (WritesTold (Some (lanes_turns words design lanes)) (AreLaneTraces design.net design.timing lanes))
