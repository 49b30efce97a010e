-- Beside specs/Checks.antt, what only private functions and proofs cite.
use Rattle.std.specs.Prelude.{◌⊎◌, Ok}
use Rattle.machine_text.specs.declared.machine.Machine.{Machine}
use Rattle.net_defs.specs.declared.{homes.HomeChoice.HomeChoice, netlist.Netlist.Netlist, timing.Timing.Timing}
use Rattle.call_steps.specs.{Checks.HasNoLoop, Checks.HasRoom, Checks.Refuses, Outcome.Outcome}

-- a loop refuses the design, or else that it does not fit
abbrev pub RefusesDesign : HomeChoice → Netlist → Machine → Timing → Outcome → Type 0
RefusesDesign choice net machine timing outcome =
    Refuses (HasNoLoop net timing) outcome ⊎ (HasNoLoop net timing (Ok tt) × Refuses (HasRoom choice net machine timing) outcome)
