-- The machine on which large netlists run, and their timing.
use Rattle.std.specs.Prelude.{[]}
use Rattle.limits.specs.declared.TheConstants.{DEFAULT_FUNCTIONS, LARGE_LOGIC, MAX_NODES, MAX_SLOTS}
use Rattle.machine_text.specs.declared.machine.Machine.{Machine}
use Rattle.net_defs.specs.declared.timing.Timing.{Timing}
use Rattle.net_defs.specs.declared.timing.Init.TheVariants as init
use Rattle.net_defs.specs.declared.timing.Mode.TheVariants as mode

-- so many logic processors of this profile, and no array processor; no port has a limit of its own
abbrev pub large_machine : Machine
large_machine = record { logic = LARGE_LOGIC; array = 0; slots = MAX_SLOTS; functions = DEFAULT_FUNCTIONS; bits = 1; nodes = MAX_NODES; own = [] }

-- rank order, where registers hold 0 at first and no gate is listed
abbrev pub large_timing : Timing
large_timing = record { mode = mode.Rank; units = 1; init = init.Zero; listed = [] }
