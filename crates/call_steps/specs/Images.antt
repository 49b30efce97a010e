-- The image of a netlist: that of a run, that of a machine, and one from elsewhere that the netlist accepts.
use Rattle.std.specs.Prelude.{◌≡◌, length, ◌≢◌, List, ℕ, Result, Ok, Err}
use Rattle.net_defs.specs.{declared.netlist.Netlist.Netlist, declared.timing.Timing.Timing, declared.stimulus.Stimulus.Stimulus, Valid.input_count}
use Rattle.net_defs.specs.declared.homes.HomeChoice.{HomeChoice}
use Rattle.image_defs.specs.{declared.image.Image.Image, WellFormed.IsWellFormed, declared.file.ImageFile.ImageFile}
use Rattle.port_host.specs.Rows.{printed_sources}
use Rattle.yse_compile.specs.{Compiled.ShowsReference, declared.choose.Chosen.Chosen, Chosen.IsChosen}
use Rattle.node_defs.specs.{declared.items.NodeNet.NodeNet, Order.IsMapped}
use Rattle.image_file.specs.{Ranges.Reads, Reading.first_fault}
use Rattle.image_check.specs.{declared.check.CheckNo.CheckNo, declared.check.CheckNo.TheVariants.Memory, Check.Says}
use Rattle.refusals.specs.declared.status.Status.TheVariants as status
use Rattle.call_steps.specs.{Checks.ReadsAs, Outcome.Outcome, Outcome.refusal}
use Rattle.refusals.specs.Lines.{image_line, match_line}
use Rattle.machine_text.specs.declared.machine.Machine.{Machine}

-- a well-formed image with the netlist's inputs and printed names, and the timing's turns, that shows the
-- cells of the reference simulation for every stimulus
pub record IsImageOf (net : Netlist) (timing : Timing) (image : Image) : Type 0 where
  pub fits : IsWellFormed image
  pub units : image.units ≡ timing.units
  pub columns : image.columns ≡ input_count net
  pub printed : length (printed_sources image) ≡ length net.printed
  pub shows : (stimulus : Stimulus) → ShowsReference net timing stimulus image

-- the image that a netlist is compiled to for a machine, at the homes of the choice
pub record IsMachineImage (choice : HomeChoice) (net : Netlist) (machine : Machine) (timing : Timing) (image : Image) : Type 0 where
  pub chosen : Chosen
  pub is : IsChosen net machine timing choice chosen
  pub image_is : chosen.compiled.image ≡ image

-- the image of a text, with its claims
abbrev pub IsImageFileOf : List ℕ → Result ImageFile Outcome → Type 0
IsImageFileOf text = ReadsAs (Reads text) (first_fault text) (λ why. refusal status.ImageText (image_line why))

-- the image is well formed and matches the items of the netlist, through its claims; where it doesn't, the refusal
-- says what the check says of it
abbrev pub IsAccepted : Netlist → Timing → ImageFile → Result (Unit {0}) Outcome → Type 0
IsAccepted net timing file (Ok passed) = (nodes : NodeNet) × IsMapped net timing nodes × Says file nodes timing (Ok tt)
IsAccepted net timing file (Err outcome) =
    (nodes : NodeNet) × IsMapped net timing nodes × (why : CheckNo) × (why ≢ Memory) × Says file nodes timing (Err why)
    × (outcome ≡ refusal status.ImageMatch (match_line why))
