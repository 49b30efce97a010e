-- What a run of lanes writes are the traces of the lanes.
use Rattle.std.proofs.Common.{refl, ℕ, ◌+◌, List, [], ◌∷◌}
use Rattle.std.specs.List.{flat_map, enumerate_from}
use Rattle.machine_run.specs.Lines.{bytes_of_run}
use Rattle.image_defs.specs.declared.image.Image.{Image}
use Rattle.net_defs.specs.declared.{netlist.Netlist.Netlist, stimulus.Stimulus.Stimulus, timing.Timing.Timing}
use Rattle.pack_machine.specs.Lines.{bytes_of_lane, bytes_of_lanes}
use Rattle.stim_text.specs.declared.lanes.Lanes.{Lanes}
use Rattle.call_steps.specs.Images.{IsImageOf}
use Rattle.yse_commands.specs.commands.Pack.{AreLaneTraces, AreTracesAfter}
use Rattle.yse_commands.proofs.ShownLemmas.{run_trace}

-- what a run of lanes writes are their traces
printed_after : (net : Netlist) (timing : Timing) (image : Image) → IsImageOf net timing image → (n : ℕ) (lanes : List Stimulus)
    → AreTracesAfter net timing n lanes (flat_map (λ p. bytes_of_lane net image (p.0 + 1) p.1) (enumerate_from n lanes))
printed_after net timing image of n [] = refl
printed_after net timing image of n (stimulus ∷ lanes) = (
  bytes_of_run net image stimulus,
  flat_map (λ p. bytes_of_lane net image (p.0 + 1) p.1) (enumerate_from (n + 1) lanes),
  run_trace net timing stimulus image of,
  printed_after net timing image of (n + 1) lanes,
  refl,
)

pub lanes_printed : (net : Netlist) (timing : Timing) (lanes : Lanes) (image : Image) → IsImageOf net timing image → AreLaneTraces net timing lanes (bytes_of_lanes net image lanes)
lanes_printed net timing lanes image of = printed_after net timing image of 0 lanes.lanes
