-- What the gates were told by a whole call.
use Rattle.std.specs.Prelude.{◌≡◌, ◌<◌, ◌⊎◌, ℕ, List, length, Option, Some, None, slice_get}
use Rattle.crew_run.specs.declared.gate.Gate as gate
use Rattle.crew_run.specs.Crews.{CanTell}
use Rattle.edge_io.specs.Names.{OfTold}
use Rattle.machine_text.specs.{declared.machine.Machine.Machine, Machines.default_machine, Machines.ports_of}
use Rattle.machine_text.specs.Machines as machine_text
use Rattle.call_steps.specs.Outcome.{Turns}
use Rattle.net_defs.specs.declared.{netlist.Netlist.Netlist, stimulus.Stimulus.Stimulus}
use Rattle.cmd_words.specs.declared.command.{Command.Command, RunWords.RunWords}
use Rattle.cmd_words.specs.declared.command.Command.TheVariants as command
use Rattle.image_defs.specs.declared.file.ImageFile.{ImageFile}
use Rattle.image_file.specs.Ranges as image_file
use Rattle.limits.specs.declared.TheConstants.{MAX_WORKERS}
use Rattle.refusals.specs.declared.status.Status.{Status}
use Rattle.yse_commands.specs.Told.{TellsTurns, lanes_turns, large_turns, run_turns, wrote_at}
use Rattle.yse_commands.specs.{Ends.MayWrite, Traced.AreLanesOfFiles, Traced.AreOfFiles}
use Rattle.stim_text.specs.declared.lanes.Lanes.{Lanes}

-- each gate that a worker may use is there, and can be told of all turns
abbrev pub AllCanTell : {G : Type 0} → gate.Ghosts G → List (Option G) → Type 0
AllCanTell p gates = (w : ℕ) (gate : Option _) → w < MAX_WORKERS → slice_get gates w ≡ Some gate → CanTell p gate

-- the machine that the text of the named file reads as, and else the default machine
abbrev pub IsMachineOfFile : Option (List ℕ → List ℕ) → Option (List ℕ) → Machine → Type 0
IsMachineOfFile bytes None machine = machine ≡ default_machine
IsMachineOfFile bytes (Some file) machine = (text : List ℕ) × OfTold bytes file (λ told. text ≡ told) × machine_text.Reads text machine

-- the image that the text of the named file reads as
abbrev pub IsImageOfFile : Option (List ℕ → List ℕ) → List ℕ → ImageFile → Type 0
IsImageOfFile bytes file image = (text : List ℕ) × OfTold bytes file (λ told. text ≡ told) × image_file.Reads text image

-- the turns of a call where something may have been written, and else what is left
pub record AreTold (result : Status) (Written Left : Type 0) : Type 0 where
  pub written : MayWrite result → Written
  pub left : (MayWrite result → ⊥) → Left

module _ (bytes : Option (List ℕ → List ℕ)) where
  -- the turns of a run on the machine of the files, by the workers of the words
  pub record AreTurnsOfFiles (words : RunWords) (told : Option Turns) : Type 0 where
    pub machine : Machine
    pub machine_is : IsMachineOfFile bytes words.machine machine
    pub net : Netlist
    pub stimulus : Stimulus
    pub are : AreOfFiles bytes words net stimulus
    pub turns : told ≡ Some (run_turns (ports_of machine) words words.timing net stimulus)

  -- the turns of a run of the image of the named file, by the workers of the words
  pub record AreTurnsOfImage (words : RunWords) (file : List ℕ) (told : Option Turns) : Type 0 where
    pub image : ImageFile
    pub image_is : IsImageOfFile bytes file image
    pub net : Netlist
    pub stimulus : Stimulus
    pub are : AreOfFiles bytes words net stimulus
    pub turns : told ≡ Some (run_turns (length image.image.ports) words words.timing net stimulus)

  -- the turns of a run of all lanes on the machine of the files, by the workers of the words
  pub record AreTurnsOfLanes (words : RunWords) (told : Option Turns) : Type 0 where
    pub machine : Machine
    pub machine_is : IsMachineOfFile bytes words.machine machine
    pub net : Netlist
    pub lanes : Lanes
    pub are : AreLanesOfFiles bytes words net lanes
    pub turns : told ≡ Some (lanes_turns words (record { homes = words.homes; machine = machine; timing = words.timing; net = net }) lanes)

  -- A run that is refused tells nothing. `large` writes after its visits, and may want memory after them. Other commands
  -- tell no gate anything.
  abbrev pub AreTurnsOf : Status → Option Command → Option Turns → Type 0
  AreTurnsOf result (Some (command.Run words)) told = AreTold result (AreTurnsOfFiles words told) (told ≡ None)
  AreTurnsOf result (Some (command.Exec words image)) told = AreTold result (AreTurnsOfImage words image told) (told ≡ None)
  AreTurnsOf result (Some (command.Pack words)) told = AreTold result (AreTurnsOfLanes words told) (told ≡ None)
  AreTurnsOf result (Some (command.Large count cycles workers)) told =
      AreTold result (told ≡ Some (large_turns cycles workers)) ((told ≡ None) ⊎ (told ≡ Some (large_turns cycles workers)))
  AreTurnsOf result _ told = told ≡ None

-- the gates were told of these turns: of all of them, and after a fault of writing of those of a whole number of blocks
pub record TellsGates {G : Type 0} (p : gate.Ghosts G) (bytes : Option (List ℕ → List ℕ)) (gates gates' : List (Option G)) (result : Status) (command : Option Command) : Type 0 where
  pub told : Option Turns
  pub are : AreTurnsOf bytes result command told
  pub visits : TellsTurns p gates gates' (wrote_at result) told
