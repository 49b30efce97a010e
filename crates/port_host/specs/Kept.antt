-- What the host keeps: its place in the stimulus, and the rows of the cycles that are over and not given up.
use Rattle.std.specs.Prelude.{◌≡◌, ◌+◌, ◌-◌, ◌*◌, ◌≤◌, true, length}
use Rattle.net_defs.specs.Valid.{IsValidStimulus}
use Rattle.image_defs.specs.{declared.image.PortImage.PortImage, declared.image.Work.TheVariants.Host, Places.host_of, Places.IsPort, WellFormed.IsWellFormed}
use Rattle.image_defs.specs.{Frames.shown, Ports.last_turn}
use Rattle.port_host.specs.Rows.{HostView, turn_of, IsOn, HasRows}
use Rattle.port_host.specs.declared.port.HostPort.TheInside.{Inside}

abbrev pub view_of : Inside → HostView
view_of a = record { port = a.bank; window = a.window; first_row = a.first_row }

pub record IsReady (a : Inside) : Type 0 where
  pub image : IsWellFormed a.bank.image
  pub stimulus : IsValidStimulus a.stim.now
  pub columns : a.stim.now.columns ≡ a.bank.image.columns
  pub stimulus_is : a.bank.stimulus ≡ a.stim.now
  pub units_is : a.units ≡ a.bank.image.units
  pub host : a.bank.port ≡ host_of a.bank.image
  pub port_image : PortImage
  pub is : IsPort a.bank.image a.bank.port port_image
  pub work : port_image.work ≡ Host a.inputs.now a.printed.now
  pub running : a.bank.begun ≡ true → a.bank.turn ≤ last_turn a.bank
  pub turn : a.bank.turn ≡ turn_of a.units a.progress
  pub on : IsOn a.stim.now a.units a.progress
  pub given : a.first_row ≤ a.progress.rows
  pub few : a.progress.rows ≤ a.first_row + a.window
  pub room : length a.cells ≡ a.window * length a.printed.now
  pub cells : HasRows (a.progress.rows - a.first_row) (length a.printed.now) (λ c. shown a.bank.image a.bank.stimulus (a.first_row + c)) a.cells
