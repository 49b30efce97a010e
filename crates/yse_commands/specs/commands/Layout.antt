-- `plan` and `compile`: what a design is laid out as, after the same checks.
use Rattle.std.specs.Prelude.{List, ℕ}
use Rattle.machine_text.specs.declared.machine.Machine.{Machine}
use Rattle.net_defs.specs.declared.{homes.HomeChoice.HomeChoice, netlist.Netlist.Netlist, timing.Timing.Timing}
use Rattle.cmd_words.specs.declared.command.RunWords.{RunWords}
use Rattle.yse_commands.specs.{declared.layout.Sheet.Sheet, commands.Compile.IsImageTextOf, commands.Plan.IsReportOf}
use Rattle.yse_commands.specs.declared.layout.Sheet.TheVariants as sheet
use Rattle.call_steps.specs.{Checks.Writes, FileSteps.PlacedOnMachine, Steps.◌>>=◌, Steps.Call, Steps.Ends}

-- the output is what is asked of the design
abbrev pub IsSheetOf : Sheet → HomeChoice → Netlist → Machine → Timing → List ℕ → Type 0
IsSheetOf sheet.Report choice net machine timing output = IsReportOf choice net machine timing output
IsSheetOf sheet.Image choice net machine timing output = IsImageTextOf choice net machine timing output

-- the design on its machine, and then what is asked of it
abbrev pub LaysOut : Sheet → RunWords → Call
LaysOut asked words = do
  design ← PlacedOnMachine words
  Ends (Writes (IsSheetOf asked design.homes design.net design.machine design.timing))
