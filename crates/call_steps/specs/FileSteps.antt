-- The steps of a call that read what words name: one for each function of the code, by its name.
use Rattle.std.specs.Prelude.{List, ℕ, Option, Some, None, Result}
use Rattle.cmd_words.specs.declared.command.RunWords.{RunWords}
use Rattle.image_defs.specs.declared.{file.ImageFile.ImageFile, image.Image.Image}
use Rattle.machine_text.specs.{declared.machine.Machine.Machine, Machines.default_machine}
use Rattle.net_defs.specs.declared.{faults.Fault.Fault, netlist.Netlist.Netlist, stimulus.Stimulus.Stimulus, timing.Timing.Timing}
use Rattle.stim_text.specs.declared.{lanes.Lanes.Lanes, order.Order.Order}
use Rattle.call_steps.specs.Checks.{HasNoLoop, HasRoom, IsFaultListOf, IsLanesOf, IsListOf, IsMachineOf, IsNetlistOf, IsOrderOf, IsStimulusOf, listing}
use Rattle.call_steps.specs.{declared.checks.Built.Built, declared.designs.Runnable.Runnable, declared.reading.Timed.Timed, Designs.Placed, Designs.Prepared}
use Rattle.call_steps.specs.Images.{IsAccepted, IsImageFileOf}
use Rattle.call_steps.specs.Outcome.{Outcome}
use Rattle.call_steps.specs.Steps.{◌>>=◌, ◌>>◌, Checks, Gives, Step, TextIn}

-- a file whose text is checked
abbrev pub FileAs : {X : Type 0} → List ℕ → (List ℕ → Result X Outcome → Type 0) → Step X
FileAs file Check = do
  text ← TextIn file
  Checks (Check text)

abbrev pub NetlistIn : List ℕ → Step Netlist
NetlistIn file = FileAs file IsNetlistOf

abbrev pub StimulusIn : List ℕ → Netlist → Step Stimulus
StimulusIn file net = FileAs file (λ text. IsStimulusOf text net)

abbrev pub LanesIn : List ℕ → Netlist → Step Lanes
LanesIn file net = FileAs file (λ text. IsLanesOf text net)

abbrev pub OrderIn : List ℕ → Machine → Step Order
OrderIn file machine = FileAs file (λ text. IsOrderOf text machine)

abbrev pub ImageFileIn : List ℕ → Step ImageFile
ImageFileIn file = FileAs file IsImageFileOf

-- the machine of the named file, and else the default machine
unfoldable pub MachineFrom : Option (List ℕ) → Step Machine
MachineFrom None = Gives default_machine
MachineFrom (Some file) = FileAs file IsMachineOf

-- the timing, with the gates listed of the named file
unfoldable pub TimingFrom : Option (List ℕ) → Netlist → Timing → Step Timing
TimingFrom None net timing = Gives timing
TimingFrom (Some file) net timing = do
  listed ← FileAs file (λ text. IsListOf text net)
  Gives (listing timing listed)

-- the stuck faults of the named file, where one is named
unfoldable pub FaultsFrom : Option (List ℕ) → Netlist → Step (Option (List Fault))
FaultsFrom None net = Gives None
FaultsFrom (Some file) net = do
  faults ← FileAs file (λ text. IsFaultListOf text net)
  Gives (Some faults)

-- the netlist, and the timing that it is run in
abbrev pub DesignFrom : List ℕ → Option (List ℕ) → Timing → Step Timed
DesignFrom netlist last given = do
  net ← NetlistIn netlist
  timing ← TimingFrom last net given
  Gives (record { net = net; timing = timing })

abbrev pub DesignOf : RunWords → Step Timed
DesignOf words = DesignFrom words.netlist words.last words.timing

-- the machine, the design, its loop, and whether it fits
abbrev pub PlacedOnMachine : RunWords → Step Placed
PlacedOnMachine words = do
  machine ← MachineFrom words.machine
  design ← DesignOf words
  Checks (HasNoLoop design.net design.timing)
  Checks (HasRoom words.homes design.net machine design.timing)
  Gives (record { homes = words.homes; machine = machine; timing = design.timing; net = design.net })

-- the design on its machine, and its stimulus
abbrev pub ReadyOnMachine : RunWords → Step Prepared
ReadyOnMachine words = do
  placed ← PlacedOnMachine words
  stimulus ← StimulusIn words.stimulus placed.net
  Gives (record { placed = placed; stimulus = stimulus })

-- the image of a file, which the netlist accepts; its claims are of no use from then on
abbrev pub ImageIn : List ℕ → Netlist → Timing → Step Image
ImageIn name net timing = do
  file ← ImageFileIn name
  Checks (IsAccepted net timing file)
  Gives file.image

-- the loop, and such an image
abbrev pub BuiltIn : List ℕ → Netlist → Timing → Step Built
BuiltIn name net timing = do
  Checks (HasNoLoop net timing)
  image ← ImageIn name net timing
  Gives (record { net = net; image = image })

-- the design, and such an image of it
abbrev pub RunnableIn : RunWords → List ℕ → Step Runnable
RunnableIn words name = do
  design ← DesignOf words
  built ← BuiltIn name design.net design.timing
  Gives (record { timing = design.timing; net = built.net; image = built.image })
