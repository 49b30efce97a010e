-- What it means that an image matches items: each place has the value of the item that it claims, and
-- what is shown are the values of the printed items.
use Rattle.std.specs.Prelude.{◌≡◌, ℕ, ◌*◌, List, Some, slice_get}
use Rattle.logic_four.specs.Values.{value_at}
use Rattle.net_defs.specs.{declared.stimulus.Stimulus.Stimulus, Steps.State}
use Rattle.node_defs.specs.declared.items.NodeNet.{NodeNet}
use Rattle.image_defs.specs.{declared.image.Image.Image, Frames.image_value, Frames.shown, Matches.ClaimsIn}

-- these are the values of the items at each turn, from turn 0 on
pub record ShowsItems (image : Image) (claims : List (List ℕ)) (nodes : NodeNet) (stimulus : Stimulus) (values : List State) : Type 0 where
  -- a place has at each turn the value of the item that it claims
  pub places : (turn p slot x : ℕ) (items : State) → slice_get values turn ≡ Some items → ClaimsIn image claims p slot x → image_value image stimulus turn p slot ≡ value_at items.row x
  -- a cell of a cycle, counted from 1, is the value of the column's printed item at the cycle's last turn
  pub cells : (c j x : ℕ) (items : State) → slice_get values (c * image.units) ≡ Some items → slice_get nodes.printed j ≡ Some x → shown image stimulus c j ≡ value_at items.row x
