-- What holds in each lane, of the lane's plain port and of the lane's value of a word. A plain port has one lane: there
-- `InEachLane V4 Q view` is `Q view`, and `AreValues V4 v value view` is `v ≡ value view`, by computation.
use Rattle.std.specs.Prelude.{◌≡◌}
use Rattle.logic_four.specs.declared.V4.{V4}
use Rattle.image_defs.specs.Ports.{View, PortView, lane_port}
use Rattle.port_bank.specs.declared.word.Word as word
use Rattle.port_bank.specs.Lanes.{InEach}

module _ {W P F S : Type 0} (m : word.Ghosts W P F S) where
  -- it holds of the plain port of each lane
  abbrev pub InEachLane : (PortView → Type 0) → View S → Type 0
  InEachLane Q view = InEach m.lanes (λ l. Q (lane_port m.stimulus l view))

  -- it holds in each lane of the plain port and of the word's value
  abbrev pub InEachLaneOf : W → (PortView → V4 → Type 0) → View S → Type 0
  InEachLaneOf w Q view = InEach m.lanes (λ l. Q (lane_port m.stimulus l view) (m.lane w l))

  -- in each lane the word has this value of the plain port
  abbrev pub AreValues : W → (PortView → V4) → View S → Type 0
  AreValues w value view = InEach m.lanes (λ l. m.lane w l ≡ value (lane_port m.stimulus l view))
