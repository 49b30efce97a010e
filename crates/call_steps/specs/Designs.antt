-- Designs that are ready to run.
use Rattle.std.specs.Prelude.{◌≡◌}
use Rattle.machine_text.specs.{declared.machine.Machine.Machine, Machines.IsValid as IsValidMachine}
use Rattle.net_defs.specs.declared.{homes.HomeChoice.HomeChoice, netlist.Netlist.Netlist, stimulus.Stimulus.Stimulus, timing.Timing.Timing}
use Rattle.net_defs.specs.Valid.{IsValid, IsValidStimulus, input_count}
use Rattle.yse_compile.specs.{declared.choose.Chosen.Chosen, Chosen.IsChosen, Compiled.ShowsReference}
use Rattle.call_steps.specs.{declared.designs.Runnable.Runnable, Images.IsImageOf, Images.IsMachineImage}

-- the image is one of the netlist
pub record IsRunnable (run : Runnable) : Type 0 where
  pub valid : IsValid run.net
  pub image : IsImageOf run.net run.timing run.image

-- a design on a machine, with the choice of its homes
pub record Placed : Type 0 where
  pub homes : HomeChoice
  pub machine : Machine
  pub timing : Timing
  pub net : Netlist

-- the netlist is compiled for the machine at these homes, and the image shows its reference simulation
pub record IsPlanned (homes : HomeChoice) (machine : Machine) (timing : Timing) (net : Netlist) (chosen : Chosen) : Type 0 where
  pub valid : IsValid net
  pub machine_valid : IsValidMachine machine
  pub is : IsChosen net machine timing homes chosen
  pub shows : (stimulus : Stimulus) → ShowsReference net timing stimulus chosen.compiled.image

-- the image is the one that the netlist is compiled to for the machine
pub record IsPlaced (homes : HomeChoice) (machine : Machine) (run : Runnable) : Type 0 where
  pub machine_valid : IsValidMachine machine
  pub runnable : IsRunnable run
  pub made : IsMachineImage homes run.net machine run.timing run.image

-- such a design with its stimulus
pub record Prepared : Type 0 where
  pub placed : Placed
  pub stimulus : Stimulus

-- the stimulus is one for the inputs of the netlist
pub record Feeds (net : Netlist) (stimulus : Stimulus) : Type 0 where
  pub valid : IsValidStimulus stimulus
  pub columns : stimulus.columns ≡ input_count net
