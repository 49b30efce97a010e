-- What a core keeps.
use Rattle.std.specs.Prelude.{◌≡◌, ℕ, ◌*◌, ◌%◌, ◌≤◌, length, map, Some, slice_get}
use Rattle.net_defs.specs.{declared.stimulus.Stimulus.Stimulus, Time.turn_count, Valid.IsValidStimulus}
use Rattle.image_defs.specs.{declared.image.PortImage.PortImage, declared.image.Image.Image, Places.IsPort, Steps.timing_of, WellFormed.IsWellFormed}
use Rattle.event_defs.specs.{Row.send_count, Row.sends_before, Sources.AreSources}
use Rattle.order_run.specs.{declared.core_run.Core.TheInside.Inside, declared.core_ports.CorePort.CorePort, Core.CoreView, Core.IsSoundCore, CorePorts.place_in}

abbrev pub view_of : Inside → CoreView
view_of a = record {
  image = a.image.now;
  stimulus = a.stim.now;
  banks = a.banks;
  places = map place_in a.core_ports;
  finished = a.finished;
  words = a.words;
}

-- the core_port of port p
pub record IsCorePort (image : Image) (stimulus : Stimulus) (banks p : ℕ) (core_port : CorePort) : Type 0 where
  pub port : core_port.port ≡ record core_port.port { image = image; stimulus = stimulus; port = p; first_row = 0; until = turn_count (timing_of image) stimulus }
  pub bank : core_port.bank ≡ core_port.port.turn % banks
  pub first : core_port.first ≡ sends_before image p
  pub sources : (port : PortImage) → IsPort image p port → AreSources image port.ins (length port.ins) core_port.sources

pub record IsKept (a : Inside) : Type 0 where
  pub image : IsWellFormed a.image.now
  pub stimulus : IsValidStimulus a.stim.now
  pub some : 1 ≤ a.banks
  pub until : a.until ≡ turn_count (timing_of a.image.now) a.stim.now
  pub core_ports : length a.core_ports ≡ length a.image.now.ports
  pub finished : length a.finished ≡ length a.image.now.ports
  pub words : length a.words ≡ send_count a.image.now * a.banks
  pub each : (p : ℕ) (core_port : CorePort) → slice_get a.core_ports p ≡ Some core_port → IsCorePort a.image.now a.stim.now a.banks p core_port
  pub sound : IsSoundCore (view_of a)
