-- What a whole call comes to, given the words and what was read: the steps of its command.
use Rattle.std.specs.Prelude.{◌≡◌, ℕ, List, Result, Ok, Err}
use Rattle.cmd_words.specs.{declared.command.Command.Command, Forms.HasForm}
use Rattle.cmd_words.specs.declared.command.Command.TheVariants as command
use Rattle.yse_commands.specs.declared.layout.Sheet.TheVariants as sheet
use Rattle.refusals.specs.declared.status.Status.TheVariants as status
use Rattle.call_steps.specs.{Outcome.Outcome, Outcome.refusal, Readings.Reading}
use Rattle.refusals.specs.Lines.{usage_line}
use Rattle.call_steps.specs.Steps.{◌>>=◌, Call, Checks}
use Rattle.yse_commands.specs.commands.{Cover.Covers, Exec.Executes, Fault.Faults, Help.Helps, Large.RunsLarge}
use Rattle.yse_commands.specs.commands.{Layout.LaysOut, Pack.Packs, Run.Orders, Run.Refers, Run.Runs, Show.Shows}

-- the command of whose form the words are; words of no form are refused
abbrev pub Asks : List (List ℕ) → Result Command Outcome → Type 0
Asks words (Ok command) = HasForm words command
Asks words (Err outcome) = ((command : Command) → HasForm words command → ⊥) × (outcome ≡ refusal status.Words usage_line)

-- the call of a command: its steps, in the order in which the code makes them
abbrev pub CallOf : Command → Call
CallOf (command.Run words) = Runs words
CallOf (command.Refer words) = Refers words
CallOf (command.Order words) = Orders words
CallOf (command.Plan words) = LaysOut sheet.Report words
CallOf (command.Compile words) = LaysOut sheet.Image words
CallOf (command.Exec words image) = Executes words image
CallOf (command.Pack words) = Packs words
CallOf (command.Fault words) = Faults words
CallOf (command.Cover words) = Covers words
CallOf (command.Show netlist) = Shows netlist
CallOf (command.Large gates cycles workers) = RunsLarge gates cycles workers
CallOf (command.Help topic) = Helps topic

-- the command of the words, and then its call
abbrev pub CallFor : List (List ℕ) → Call
CallFor words = do
  asked ← Checks (Asks words)
  CallOf asked

-- these words come to this outcome, where the files that are begun read as these readings, in their order
unfoldable pub Expected : List (List ℕ) → List Reading → Outcome → Type 0
Expected words readings outcome = CallFor words readings (Err outcome)
