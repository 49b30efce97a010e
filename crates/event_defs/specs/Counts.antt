-- How many events a run has.
use Rattle.std.specs.Prelude.{Bool, List, None, Option, Some, [], if◌then◌else◌, length, nat_le, slice_get, suc, zero, ℕ, ◌*◌, ◌+◌, ◌-◌, ◌∷◌}
use Rattle.std.specs.List.{list_any}
use Rattle.image_defs.specs.{Places.in_slots, Places.out_slots, declared.image.Image.Image, declared.image.PortImage.PortImage}
use Rattle.event_defs.specs.{Places.is_in, Places.known_of, declared.place.CoreStep.CoreStep}
use Rattle.event_defs.specs.declared.place.{CoreStep.TheVariants.Done, CoreStep.TheVariants.Moved, CoreStep.TheVariants.NotYet, Place.Place}

-- the sum of the first n of these numbers
unfoldable pub sum_to : ℕ → (ℕ → ℕ) → ℕ
sum_to zero f = 0
sum_to (suc n) f = sum_to n f + f n

-- 1 for a step that moved, else 0
abbrev pub moves : CoreStep → ℕ
moves (Moved event) = 1
moves NotYet = 0
moves Done = 0

-- how many of the steps moved
unfoldable pub moved_in : List CoreStep → ℕ
moved_in [] = 0
moved_in (answer ∷ answers) = moves answer + moved_in answers

-- a number of port p of the image, and 0 where there is no such port
abbrev pub of_port : (PortImage → ℕ) → Option PortImage → ℕ
of_port f None = 0
of_port f (Some port) = f port

-- the sum of a number of each port
abbrev pub of_ports : Image → (PortImage → ℕ) → ℕ
of_ports image f = sum_to (length image.ports) (λ p. of_port f (slice_get image.ports p))

-- whether port q reads what this one sends
abbrev pub is_read_by : PortImage → ℕ → Bool
is_read_by port q = list_any (λ link. is_in q link.readers) port.outs

-- how many of so many ports read what this one sends
abbrev pub readers_of : ℕ → PortImage → ℕ
readers_of ports port = sum_to ports (λ q. if is_read_by port q then 1 else 0)

-- the sends and receipts of a port in a turn, and its Tell
abbrev pub work_of : PortImage → ℕ
work_of port = length port.outs + length port.ins + 1

-- the pairs of a port and a port that reads it
abbrev pub pairs : Image → ℕ
pairs image = of_ports image (readers_of (length image.ports))

-- the events of a run of so many turns: in each turn each send, each receipt and each port's Tell; and an Ask
-- for each pair in each turn after the first few, of which there are as many as banks
abbrev pub events : Image → ℕ → ℕ → ℕ
events image banks until = until * of_ports image work_of + (until - banks) * pairs image

-- ---- what is left of a run

-- how many of these slots are not done
unfoldable pub missing : List ℕ → List ℕ → ℕ
missing done [] = 0
missing done (s ∷ slots) = (if is_in s done then 0 else 1) + missing done slots

module _ (ports banks until : ℕ) where
  -- the events of a port that are left, but for its Asks
  abbrev pub work_left : PortImage → Place → ℕ
  work_left port place = if nat_le place.turn until then (until - place.turn) * work_of port + missing place.puts (out_slots port.outs) + missing place.takes (in_slots port.ins) + 1 else 0

  -- its Asks: one at most for each reader and each turn that it isn't known yet to have finished
  abbrev pub asks_left : PortImage → Place → ℕ
  asks_left port place = sum_to ports (λ q. if is_read_by port q then until - banks - known_of place q else 0)

  abbrev pub port_left : Place → PortImage → ℕ
  port_left place port = work_left port place + asks_left port place

-- no more than so many events are left
abbrev pub events_left : Image → ℕ → ℕ → (ℕ → Place) → ℕ
events_left image banks until place = sum_to (length image.ports) (λ p. of_port (port_left (length image.ports) banks until (place p)) (slice_get image.ports p))
