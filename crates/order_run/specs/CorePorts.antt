-- A port in the core, and what each event makes of it.
use Rattle.event_defs.specs.declared.place.Place.{Place}
use Rattle.port_walk.specs.Placed.{place_of}
use Rattle.order_run.specs.declared.core_ports.CorePort.{CorePort}

-- its place
abbrev pub place_in : CorePort → Place
place_in core_port = place_of core_port.port core_port.known
