-- A plain port of any kind.
use Rattle.std.specs.Prelude.{ℕ, ◌+◌, ◌==◌, if◌then◌else◌, length, Option, None, Some}
use Rattle.image_defs.specs.{declared.image.Image.Image, Ports.PortView}
use Rattle.port_walk.specs.declared.kind.Kind.{Kind, TheVariants.Logic, TheVariants.Array, TheVariants.Host}

-- how far it has come
abbrev pub view_in : Kind → PortView
view_in (Logic port) = port
view_in (Array port) = port
view_in (Host host) = host.port

-- the host's window, and how many rows it has given up
abbrev pub rows_in : Kind → Option (ℕ × ℕ)
rows_in (Logic port) = None
rows_in (Array port) = None
rows_in (Host host) = Some (host.window, host.first_row)

-- the rows of port number p: the last port of an image is the host, and no other has any
abbrev pub rows_of : Image → ℕ → ℕ × ℕ → Option (ℕ × ℕ)
rows_of image p rows = if p + 1 == length image.ports then Some rows else None
