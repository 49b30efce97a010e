-- `compile`: the text of the image of the design on the machine.
use Rattle.std.specs.Prelude.{◌≡◌, ℕ, List}
use Rattle.machine_text.specs.declared.machine.Machine.{Machine}
use Rattle.net_defs.specs.declared.{homes.HomeChoice.HomeChoice, netlist.Netlist.Netlist, timing.Timing.Timing}
use Rattle.image_defs.specs.declared.file.ImageFile.{ImageFile}
use Rattle.image_file.specs.Files.{image_text}
use Rattle.yse_compile.specs.{declared.choose.Chosen.Chosen, Chosen.IsChosen, Claims.AreClaimsOf}

-- the output is the text of the image that the netlist is compiled to, at the homes that are used, where each place
-- claims the item that the plan puts there
pub record IsImageTextOf (choice : HomeChoice) (net : Netlist) (machine : Machine) (timing : Timing) (output : List ℕ) : Type 0 where
  pub chosen : Chosen
  pub is : IsChosen net machine timing choice chosen
  pub file : ImageFile
  pub image : file.image ≡ chosen.compiled.image
  pub claims : AreClaimsOf chosen.compiled file.claims
  pub text : output ≡ image_text file
