-- What a core is made of.
use Rattle.std.specs.Prelude.{List, Some, length, max, replicate, slice_get, ℕ, ◌%◌, ◌≡◌}
use Rattle.net_defs.specs.{Time.cycle_count, declared.stimulus.Stimulus.Stimulus}
use Rattle.image_defs.specs.{Places.IsPort, declared.image.Image.Image, declared.image.PortImage.PortImage}
use Rattle.event_defs.specs.{Row.sends_before, Sources.AreSources}
use Rattle.port_walk.specs.Placed.{at_start}
use Rattle.order_run.specs.declared.core_ports.CorePort.{CorePort}

-- the window of a port that runs all cycles in one block
abbrev pub whole_run : Stimulus → ℕ
whole_run stimulus = max 1 (cycle_count stimulus)

-- the core_port of port p before its first event
pub record IsFirstCorePort (image : Image) (stimulus : Stimulus) (banks p : ℕ) (core_port : CorePort) : Type 0 where
  pub port : core_port.port ≡ at_start image stimulus p (whole_run stimulus)
  pub known : core_port.known ≡ replicate (length image.ports) 0
  pub bank : core_port.bank ≡ 1 % banks
  pub first : core_port.first ≡ sends_before image p
  pub sources : (port : PortImage) → IsPort image p port → AreSources image port.ins (length port.ins) core_port.sources

-- the core_ports of the first n ports before their first events
pub record AreFirstCorePorts (image : Image) (stimulus : Stimulus) (banks n : ℕ) (core_ports : List CorePort) : Type 0 where
  pub long : length core_ports ≡ n
  pub each : (p : ℕ) (core_port : CorePort) → slice_get core_ports p ≡ Some core_port → IsFirstCorePort image stimulus banks p core_port
