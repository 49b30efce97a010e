-- An image that matches the items of a netlist.
use Rattle.std.proofs.Common.{◌≡◌, ◌∙◌, ℕ, List, length, Some, slice_get, arith}
use Rattle.net_defs.specs.{declared.netlist.Netlist.Netlist, declared.timing.Timing.Timing, declared.stimulus.Stimulus.Stimulus, Valid.input_count}
use Rattle.image_defs.specs.{declared.image.Image.Image, declared.image.PortImage.PortImage, Places.host_of, WellFormed.IsWellFormed, Matches.Matches}
use Rattle.node_defs.specs.{declared.items.NodeNet.NodeNet, Order.AreItems, WellFormed.column_count}
use Rattle.node_defs.proofs.lemmas.MemberLemmas.{member_at}
use Rattle.port_host.specs.Rows.{printed_sources}
use Rattle.yse_compile.specs.Compiled.{ShowsReference}
use Rattle.call_steps.specs.Images.{IsImageOf}

-- a well-formed image that matches the items of a netlist is one of the netlist
pub image_of : (net : Netlist) (timing : Timing) (nodes : NodeNet) (image : Image) (claims : List (List ℕ)) → AreItems net timing nodes → IsWellFormed image → Matches image claims nodes timing → column_count nodes ≡ input_count net → ((stimulus : Stimulus) → ShowsReference net timing stimulus image) → IsImageOf net timing image
image_of net timing nodes image claims items fits matches inputs shows = record {
  fits = fits;
  units = matches.units;
  columns = matches.columns ∙ inputs;
  printed = printed;
  shows = shows;
} where
  host : (port : PortImage) × (slice_get image.ports (host_of image) ≡ Some port)
  host = member_at image.ports (host_of image) (omega (arith, fits.some_ports))

  printed : length (printed_sources image) ≡ length net.printed
  printed = rw host.1 ((matches.printed host.0 host.1).as_many ∙ items.printed.each)
