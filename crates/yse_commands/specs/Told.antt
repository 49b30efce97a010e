-- The turns that the gates of workers are told of, and what the gates were told.
use Rattle.std.specs.Prelude.{◌≡◌, ◌⊎◌, ℕ, ◌+◌, ◌*◌, List, length, min, Option, Some, None, Result, Ok, Err}
use Rattle.cmd_words.specs.declared.command.RunWords.{RunWords}
use Rattle.crew_run.specs.declared.gate.Gate as gate
use Rattle.edge_io.specs.declared.writing.WriteNo.{WriteNo, TheVariants.Failed}
use Rattle.large_run.specs.Setting.{large_machine}
use Rattle.machine_run.specs.{Blocks.block_cycles, Visits.AreVisitsOf}
use Rattle.machine_text.specs.Machines.{ports_of}
use Rattle.call_steps.specs.{Designs.Placed, Outcome.Turns}
use Rattle.net_defs.specs.{declared.netlist.Netlist.Netlist, declared.stimulus.Stimulus.Stimulus, declared.timing.Timing.Timing, Time.cycle_count}
use Rattle.net_defs.specs.Valid.{input_count}
use Rattle.refusals.specs.declared.status.Status.{Status}
use Rattle.refusals.specs.declared.status.Status.TheVariants as status
use Rattle.stim_text.specs.{declared.lanes.Lanes.Lanes, Lanes.longest}

-- the cycles of a block of a run: a cycle has a cell for each input and each printed name
abbrev pub block_of : Netlist → ℕ
block_of net = block_cycles (input_count net + length net.printed)

-- the turns of a run of so many ports, which writes its trace block after block
abbrev pub run_turns : ℕ → RunWords → Timing → Netlist → Stimulus → Turns
run_turns ports words timing net stimulus =
    record { ports = ports; units = timing.units; cycles = cycle_count stimulus; workers = words.workers; block = Some (block_of net) }

-- the turns of a run of all lanes: as many as the longest lane has
abbrev pub lanes_turns : RunWords → Placed → Lanes → Turns
lanes_turns words design lanes =
    record { ports = ports_of design.machine; units = design.timing.units; cycles = longest lanes; workers = words.workers; block = None }

-- the turns of so many cycles on the machine of `large`, by so many workers
abbrev pub large_turns : ℕ → ℕ → Turns
large_turns cycles workers = record { ports = ports_of large_machine; units = 1; cycles = cycles; workers = workers; block = None }

-- of so many cycles all were run, or after a fault of writing those of a whole number of blocks
abbrev pub IsCut : Option ℕ → Result (Unit {0}) WriteNo → ℕ → ℕ → Type 0
IsCut None wrote cycles run = run ≡ cycles
IsCut (Some block) (Ok written) cycles run = run ≡ cycles
IsCut (Some block) (Err why) cycles run = (run ≡ cycles) ⊎ ((blocks : ℕ) × (run ≡ min (blocks * block) cycles))

-- the gates were told of these turns, by what came of the writing, and of nothing where there are none
abbrev pub TellsTurns : {G : Type 0} → gate.Ghosts G → List (Option G) → List (Option G) → Result (Unit {0}) WriteNo → Option Turns → Type 0
TellsTurns p gates gates' wrote None = gates' ≡ gates
TellsTurns p gates gates' wrote (Some turns) =
    (run : ℕ) × IsCut turns.block wrote turns.cycles run × AreVisitsOf p turns.ports (turns.units * run) turns.workers gates gates'

-- what came of the writing in a call that ended with this status
abbrev pub wrote_at : Status → Result (Unit {0}) WriteNo
wrote_at status.WriteFault = Err Failed
wrote_at _ = Ok tt
